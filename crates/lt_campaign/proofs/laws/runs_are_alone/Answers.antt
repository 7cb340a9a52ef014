-- However often it took its part.
use Rattle.lt_campaign.proofs.Alone.{run_alone}
use Rattle.lt_campaign.proofs.laws.runs_are_alone.Goals as goal

pub returns : goal.returns
returns g c = λ s last parts calm turn wanted took u ahead. run_alone s last parts calm turn wanted took u ahead
