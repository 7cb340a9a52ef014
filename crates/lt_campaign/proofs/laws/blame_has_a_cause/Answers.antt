-- What is blamed in a campaign has a cause.
use Rattle.lt_campaign.proofs.Caused.{blames_have_causes}
use Rattle.lt_campaign.proofs.laws.blame_has_a_cause.Goals as goal

pub returns : goal.returns
returns g c = blames_have_causes
