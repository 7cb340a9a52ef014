use Rattle.std.proofs.Common.{arith}
use Rattle.std.proofs.lemmas.Grind.{common_steps}
use Rattle.lt_types.proofs.Scopes.{groups_parameters_list}
use Rattle.lt_types.proofs.groups.add_params.Goals as goal

pub loop-group-init : goal.loop-group-init
loop-group-init c = grind (arith, groups_parameters_list)

pub loop-group-preserved : goal.loop-group-preserved
loop-group-preserved c = grind (arith, common_steps)

pub returns-in_err-add_group_params : goal.returns-in_err-add_group_params
returns-in_err-add_group_params c = grind arith

pub returns : goal.returns
returns c = grind (arith, common_steps)
