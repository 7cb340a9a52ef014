use Rattle.std.proofs.Common.{arith}
use Rattle.lt_macros.proofs.Waiting.{turned}
use Rattle.lt_macros.proofs.counting.put.Goals as goal

pub returns-clause-left : goal.returns-clause-left
returns-clause-left c = grind (arith, turned)
