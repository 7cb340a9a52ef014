use Rattle.std.proofs.Common.{arith}
use Rattle.lt_macros.proofs.Covers.{lists}
use Rattle.lt_macros.proofs.shape.shape_of_handler.Goals as goal

pub returns-in-Some : goal.returns-in-Some
returns-in-Some c = grind (arith, lists)
