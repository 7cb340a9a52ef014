use Rattle.lt_num.proofs.PointLemmas as lemmas
use Rattle.lt_num.proofs.laws.points_of_step_one.Goals as goal

pub returns : goal.returns
returns c = lemmas.points_of_step_one
