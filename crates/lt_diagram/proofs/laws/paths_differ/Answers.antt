use Rattle.lt_diagram.proofs.WayLaws.{paths_differ}
use Rattle.lt_diagram.proofs.laws.paths_differ.Goals as goal

pub returns : goal.returns
returns c = paths_differ
