use Rattle.lt_draw.proofs.TargetLemmas as lemmas
use Rattle.lt_draw.proofs.laws.each_is_a_target.Goals as goal

pub returns : goal.returns
returns c = lemmas.each_is_a_target
