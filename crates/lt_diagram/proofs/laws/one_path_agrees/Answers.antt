use Rattle.lt_diagram.proofs.WayLaws.{one_path_agrees}
use Rattle.lt_diagram.proofs.laws.one_path_agrees.Goals as goal

pub returns : goal.returns
returns c = one_path_agrees
