use Rattle.lt_draw.proofs.PickLemmas as lemmas
use Rattle.lt_draw.proofs.laws.picks_the_first_over.Goals as goal

pub returns : goal.returns
returns c = lemmas.picks_the_first_over
