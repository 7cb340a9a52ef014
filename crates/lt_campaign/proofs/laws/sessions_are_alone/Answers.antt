-- However many rounds there are.
use Rattle.lt_campaign.proofs.Parts.{sessions_alone}
use Rattle.lt_campaign.proofs.laws.sessions_are_alone.Goals as goal

pub returns : goal.returns
returns g c = λ first last rs all. sessions_alone first last rs all
