use Rattle.lt_draw.proofs.PickLemmas as lemmas
use Rattle.lt_draw.proofs.laws.picks_by_weight.Goals as goal

pub returns : goal.returns
returns c = lemmas.picks_by_weight
