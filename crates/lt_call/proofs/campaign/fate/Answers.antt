use Rattle.std.proofs.Common.{arith}
use Rattle.lt_call.proofs.campaign.fate.Goals as goal

pub number-requires : goal.number-requires
number-requires c = let few = rw c.in-Ended.is at c.requires in omega arith
