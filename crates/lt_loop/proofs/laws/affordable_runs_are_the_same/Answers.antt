use Rattle.lt_loop.proofs.GivingUpLemmas.{affordable_runs_are_the_same}
use Rattle.lt_loop.proofs.laws.affordable_runs_are_the_same.Goals as goal

pub returns : goal.returns
returns g c = affordable_runs_are_the_same
