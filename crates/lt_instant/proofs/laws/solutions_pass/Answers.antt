use Rattle.lt_instant.proofs.DrawnSolutions.{solutions_pass}
use Rattle.lt_instant.proofs.laws.solutions_pass.Goals as goal

pub returns : goal.returns
returns c = solutions_pass
