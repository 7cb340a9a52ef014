use Rattle.std.proofs.Common.{arith}
use Rattle.lt_macros.proofs.Covers.{lists}
use Rattle.lt_macros.proofs.shape.shape_of_joined.Goals as goal

pub returns-else-is_empty : goal.returns-else-is_empty
returns-else-is_empty c = grind (arith, lists)
