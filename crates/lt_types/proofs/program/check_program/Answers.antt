use Rattle.std.proofs.Common.{arith}
use Rattle.lt_types.proofs.Leading.{leads}
use Rattle.lt_types.proofs.program.check_program.Goals as goal

pub returns-in_err-scope : goal.returns-in_err-scope
returns-in_err-scope c = grind (arith, leads)
