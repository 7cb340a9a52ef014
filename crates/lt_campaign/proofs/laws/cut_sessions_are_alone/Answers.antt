-- However many rounds there are before it.
use Rattle.lt_campaign.proofs.Parts.{cut_sessions_alone}
use Rattle.lt_campaign.proofs.laws.cut_sessions_are_alone.Goals as goal

pub returns : goal.returns
returns g c = λ first behind last rounds count parts all round. cut_sessions_alone first behind last rounds count parts all round
