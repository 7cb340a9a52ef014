use Rattle.lt_typing_laws.proofs.Nodes.{expansion_keeps_types}
use Rattle.lt_typing_laws.proofs.laws.expansion_keeps_types.Goals as goal

pub returns : goal.returns
returns c = expansion_keeps_types c.parts_are_numbered.ensures
