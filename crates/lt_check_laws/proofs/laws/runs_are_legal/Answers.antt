use Rattle.lt_check_laws.proofs.Runs.{runs-are-legal}
use Rattle.lt_check_laws.proofs.laws.runs_are_legal.Goals as goal

pub returns : goal.returns
returns c = runs-are-legal c.names_are_there.ensures c.instants_give_their_own.ensures c.instants_follow.ensures c.instants_end.ensures c.replies_fit.ensures
