use Rattle.std.proofs.Common.{rules}
use Rattle.lt_call.proofs.campaign.push.Goals as goal
use Rattle.lt_call.proofs.campaign.push.Goals.{in-Ok, in-Err}

pub returns : goal.returns
returns c = elim c.match-push.branch [ in-Ok w ↦ rw w.result-is w.in-Ok.ensures.items | in-Err w ↦ rw w.result-is tt ]
