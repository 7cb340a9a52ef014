use Rattle.std.proofs.Common.{arith}
use Rattle.lt_types.proofs.Leading.{leads}
use Rattle.lt_types.proofs.Naming.{as_many_steps}
use Rattle.lt_types.proofs.uses.check_entry_applied.Goals as goal

pub returns-then-args-len : goal.returns-then-args-len
returns-then-args-len c = grind (arith, leads, as_many_steps)

pub returns-in_err-check_arguments_fit-in-Macro : goal.returns-in_err-check_arguments_fit-in-Macro
returns-in_err-check_arguments_fit-in-Macro c = grind (arith, leads, as_many_steps)

pub returns-in-Variable : goal.returns-in-Variable
returns-in-Variable c = grind (arith, leads)

pub returns-in-Parameter : goal.returns-in-Parameter
returns-in-Parameter c = grind (arith, leads)

pub returns-in_ok-check_arguments_fit-in-Macro : goal.returns-in_ok-check_arguments_fit-in-Macro
returns-in_ok-check_arguments_fit-in-Macro c = grind (arith, as_many_steps)
