use Rattle.std.proofs.Common.{arith}
use Rattle.lt_macros.proofs.Plain.{traces}
use Rattle.lt_macros.proofs.constructors.braces_at.Goals as goal

pub returns-in-Choice : goal.returns-in-Choice
returns-in-Choice c = grind (arith, traces)
