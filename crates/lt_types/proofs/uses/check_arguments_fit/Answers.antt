use Rattle.std.proofs.Common.{arith}
use Rattle.std.proofs.lemmas.Grind.{common_steps}
use Rattle.lt_types.proofs.Leading.{leads}
use Rattle.lt_types.proofs.Naming.{arguments_misfit_none}
use Rattle.lt_types.proofs.uses.check_arguments_fit.Goals as goal

pub returns-in_err-check_argument_fits : goal.returns-in_err-check_argument_fits
returns-in_err-check_argument_fits c = grind (arith, leads, arguments_misfit_none)

pub returns : goal.returns
returns c = grind (arith, leads, arguments_misfit_none)

pub loop-params-preserved : goal.loop-params-preserved
loop-params-preserved c = grind (arith, common_steps)

pub returns-in_default-2 : goal.returns-in_default-2
returns-in_default-2 c = grind (arith, common_steps)

pub returns-in_default-2-2 : goal.returns-in_default-2-2
returns-in_default-2-2 c = grind (arith, common_steps)
