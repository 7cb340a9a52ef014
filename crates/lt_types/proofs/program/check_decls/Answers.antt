use Rattle.std.proofs.Common.{arith}
use Rattle.lt_types.proofs.Leading.{leads}
use Rattle.lt_types.proofs.Stacks.{drop_next}
use Rattle.lt_types.proofs.program.check_decls.Goals as goal

pub returns-in_err-check_decl : goal.returns-in_err-check_decl
returns-in_err-check_decl c = grind (arith, leads, drop_next)

pub loop-decl-preserved : goal.loop-decl-preserved
loop-decl-preserved c = grind (arith, drop_next)
