use Rattle.lt_macros.proofs.Nodes as lemmas
use Rattle.lt_macros.proofs.laws.locals_are_inside.Goals as goal

pub returns : goal.returns
returns c = lemmas.locals_are_inside
