use Rattle.std.proofs.Common.{arith}
use Rattle.std.proofs.lemmas.Grind.{common_steps}
use Rattle.lt_types.proofs.Leading.{leads}
use Rattle.lt_types.proofs.Naming.{all_given_misfit_none}
use Rattle.lt_types.proofs.runs.check_all_given.Goals as goal

pub returns-in_err-check_given : goal.returns-in_err-check_given
returns-in_err-check_given c = grind (arith, leads, all_given_misfit_none)

pub returns : goal.returns
returns c = grind (arith, leads, all_given_misfit_none)

pub loop-inputs-preserved : goal.loop-inputs-preserved
loop-inputs-preserved c = grind (arith, common_steps)

pub returns-in_default-2 : goal.returns-in_default-2
returns-in_default-2 c = grind (arith, common_steps)

pub returns-in_default-2-2 : goal.returns-in_default-2-2
returns-in_default-2-2 c = grind (arith, common_steps)
