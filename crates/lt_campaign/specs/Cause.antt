-- What is blamed in a campaign has a cause.
use Rattle.std.specs.Prelude.{◌≡◌, ◌≤◌, ℕ, List, Some}
use Rattle.std.specs.declared.option.Option.{Option}
use Rattle.lt_io.specs.Causes.{Rose}
use Rattle.lt_io.specs.Outside.{Outside}
use Rattle.lt_io.specs.Programs.{Programs}
use Rattle.lt_loop.specs.CoreState.{CoreState}
use Rattle.lt_loop.specs.InputSource.{InputSource}
use Rattle.lt_rif.specs.declared.end.End.TheVariants as end
use Rattle.lt_rif.specs.declared.end.Who.{Who}
use Rattle.lt_campaign.specs.Campaign.{AllWantTurns, Blamed, IsPlayed}
use Rattle.lt_campaign.specs.declared.campaign_end.CampaignEnd.{CampaignEnd}
use Rattle.lt_campaign.specs.declared.campaign_end.Outcome.{Outcome}
use Rattle.lt_campaign.specs.declared.campaign_end.Outcome.TheVariants as outcome

-- what blames a program: it wasn't started, or its link failed
pub data Blames : Outcome → Type 0 where
  unstarted : (w : Who) → Blames (outcome.Never w)
  broken : (w : Who) (steps : ℕ) → Blames (outcome.Ended (end.Device w) steps)

-- Where a campaign is played from cores that want turns, no count of faults of programs falls, and a
-- program is blamed only where one rose.
abbrev pub BlameHasACause : Type 0 → Type 0
BlameHasACause State =
    (controller oracle : InputSource) (cores : List (CoreState State)) (old new : Outside Programs)
    (how : CampaignEnd) (blamed : Option Blamed) → AllWantTurns cores →
    IsPlayed controller oracle cores old new how blamed →
    (old.inputs.faults ≤ new.inputs.faults)
    × ((it : Blamed) → blamed ≡ Some it → Blames it.outcome → Rose old.inputs.faults new.inputs.faults)
