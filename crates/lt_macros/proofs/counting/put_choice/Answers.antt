use Rattle.std.proofs.Common.{arith}
use Rattle.lt_macros.proofs.Waiting.{counted_parts}
use Rattle.lt_macros.proofs.counting.put_choice.Goals as goal

pub returns-clause-figures : goal.returns-clause-figures
returns-clause-figures c = grind (arith, counted_parts)
