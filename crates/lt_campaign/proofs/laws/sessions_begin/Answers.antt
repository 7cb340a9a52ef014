-- Each with its core.
use Rattle.lt_campaign.proofs.Parts.{sessions_begin}
use Rattle.lt_campaign.proofs.laws.sessions_begin.Goals as goal

pub returns : goal.returns
returns g c = λ controller oracle cores old new sessions tells starts i s is. sessions_begin controller oracle cores old new sessions tells starts i s is
