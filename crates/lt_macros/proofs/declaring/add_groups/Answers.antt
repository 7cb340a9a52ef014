use Rattle.std.proofs.Common.{arith}
use Rattle.lt_macros.proofs.Parameters.{names}
use Rattle.lt_macros.proofs.declaring.add_groups.Goals as goal

pub loop-group-init : goal.loop-group-init
loop-group-init c = grind (arith, names)

pub loop-group-preserved : goal.loop-group-preserved
loop-group-preserved c = grind (arith, names)
