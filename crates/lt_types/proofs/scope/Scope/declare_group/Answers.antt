use Rattle.std.proofs.Common.{arith}
use Rattle.std.proofs.lemmas.Grind.{common_steps}
use Rattle.lt_types.proofs.Leading.{leads}
use Rattle.lt_types.proofs.scope.Scope.declare_group.Goals as goal

pub loop-name-preserved : goal.loop-name-preserved
loop-name-preserved c = grind (arith, common_steps)

pub returns-in_err-declare : goal.returns-in_err-declare
returns-in_err-declare c = grind (arith, leads)
