-- It is driven as a run that is alone, and such a run is whole.
use Rattle.lt_campaign.proofs.Wholes.{sessions_whole}
use Rattle.lt_campaign.proofs.laws.undisturbed_sessions_are_whole.Goals as goal

pub returns : goal.returns
returns g c = sessions_whole c.undisturbed_runs_are_whole.ensures
