use Rattle.lt_macros.proofs.Nodes as lemmas
use Rattle.lt_macros.proofs.laws.parts_are_numbered.Goals as goal

pub returns : goal.returns
returns c = lemmas.parts_are_numbered
