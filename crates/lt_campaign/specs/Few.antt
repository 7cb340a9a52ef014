-- How many steps a session may have put out.
use Rattle.std.specs.Prelude.{ℕ}
use Rattle.lt_campaign.specs.declared.campaign_end.Outcome.{Outcome}
use Rattle.lt_campaign.specs.declared.campaign_end.Outcome.TheVariants as outcome

-- how many steps a session put out that ended so
abbrev pub steps_of : Outcome → ℕ
steps_of (outcome.Ended e steps) = steps
steps_of (outcome.Never w) = 0
