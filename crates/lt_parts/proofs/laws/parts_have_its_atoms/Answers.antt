use Rattle.lt_parts.proofs.Counts as counts
use Rattle.lt_parts.proofs.laws.parts_have_its_atoms.Goals as goal

pub returns : goal.returns
returns c = counts.parts_have_its_atoms
