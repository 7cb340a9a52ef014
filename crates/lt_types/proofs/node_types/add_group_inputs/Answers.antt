use Rattle.std.proofs.Common.{arith}
use Rattle.std.proofs.lemmas.Grind.{common_steps}
use Rattle.lt_types.proofs.Leading.{leads}
use Rattle.lt_types.proofs.node_types.add_group_inputs.Goals as goal

pub returns-in_err-push : goal.returns-in_err-push
returns-in_err-push c = grind (arith, leads)

pub loop-preserved : goal.loop-preserved
loop-preserved c = grind (arith, common_steps)

pub returns : goal.returns
returns c = grind (arith, common_steps)
