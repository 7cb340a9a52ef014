use Rattle.lt_num.proofs.PointLemmas as lemmas
use Rattle.lt_num.proofs.laws.points_are_those.Goals as goal

pub returns : goal.returns
returns c = lemmas.points_are_those
