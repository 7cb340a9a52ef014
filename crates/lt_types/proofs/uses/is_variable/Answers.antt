use Rattle.std.proofs.Common.{arith}
use Rattle.lt_types.proofs.Naming.{named_used}
use Rattle.lt_types.proofs.uses.is_variable.Goals as goal

pub returns-in-Named : goal.returns-in-Named
returns-in-Named c = grind (arith, named_used)
