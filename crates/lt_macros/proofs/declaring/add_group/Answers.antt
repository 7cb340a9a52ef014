use Rattle.std.proofs.Common.{arith}
use Rattle.lt_macros.proofs.Parameters.{names}
use Rattle.lt_macros.proofs.declaring.add_group.Goals as goal

pub loop-name-preserved : goal.loop-name-preserved
loop-name-preserved c = grind (arith, names)
