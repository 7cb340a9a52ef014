use Rattle.lt_macros.proofs.Named as lemmas
use Rattle.lt_macros.proofs.laws.names_are_there.Goals as goal

pub returns : goal.returns
returns c = lemmas.names_are_there
