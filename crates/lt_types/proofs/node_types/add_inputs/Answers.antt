use Rattle.std.proofs.Common.{arith}
use Rattle.std.proofs.lemmas.Grind.{common_steps}
use Rattle.lt_types.proofs.Scopes.{groups_inputs_list}
use Rattle.lt_types.proofs.node_types.add_inputs.Goals as goal

pub loop-group-init : goal.loop-group-init
loop-group-init c = grind (arith, groups_inputs_list)

pub loop-group-preserved : goal.loop-group-preserved
loop-group-preserved c = grind (arith, common_steps)

pub returns-in_err-add_group_inputs : goal.returns-in_err-add_group_inputs
returns-in_err-add_group_inputs c = grind arith

pub returns : goal.returns
returns c = grind (arith, common_steps)
