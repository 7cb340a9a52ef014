use Rattle.std.proofs.Common.{arith}
use Rattle.lt_types.proofs.Leading.{leads}
use Rattle.lt_types.proofs.program.check_decl.Goals as goal

pub returns-in_err-check_new_macro-in-Macro : goal.returns-in_err-check_new_macro-in-Macro
returns-in_err-check_new_macro-in-Macro c = grind (arith, leads)

pub returns-in_err-check_macro-in-Macro : goal.returns-in_err-check_macro-in-Macro
returns-in_err-check_macro-in-Macro c = grind (arith, leads)
