use Rattle.std.proofs.Common.{arith}
use Rattle.lt_types.proofs.Leading.{leads}
use Rattle.lt_types.proofs.program.check_text.Goals as goal

pub returns-in_err-check_decls : goal.returns-in_err-check_decls
returns-in_err-check_decls c = grind (arith, leads)

pub returns : goal.returns
returns c = grind (arith, leads)
