use Rattle.lt_legal_laws.proofs.Follow.{instants-follow}
use Rattle.lt_legal_laws.proofs.laws.instants_follow.Goals as goal

pub returns : goal.returns
returns c = instants-follow c.solutions_pass.ensures c.draw_is_legal.ensures
