use Rattle.lt_legal_laws.proofs.Follow.{runs-reach}
use Rattle.lt_legal_laws.proofs.laws.runs_reach.Goals as goal

pub returns : goal.returns
returns c = runs-reach c.solutions_pass.ensures c.draw_is_legal.ensures
