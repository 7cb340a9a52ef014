use Rattle.lt_instant.proofs.Affords.{affordable_instants_are_not_given_up}
use Rattle.lt_instant.proofs.laws.affordable_instants_are_not_given_up.Goals as goal

pub returns : goal.returns
returns c = affordable_instants_are_not_given_up
