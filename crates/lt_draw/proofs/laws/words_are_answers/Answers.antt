use Rattle.lt_draw.proofs.WordLemmas as lemmas
use Rattle.lt_draw.proofs.laws.words_are_answers.Goals as goal

pub returns : goal.returns
returns c = lemmas.words_are_answers
