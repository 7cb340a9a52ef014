use Rattle.lt_legal_laws.proofs.Follow.{instants-end}
use Rattle.lt_legal_laws.proofs.laws.instants_end.Goals as goal

pub returns : goal.returns
returns c = instants-end c.draw_is_legal.ensures c.deadlock_means_none_live.ensures
