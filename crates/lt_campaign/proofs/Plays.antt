-- A campaign, from its start to its end.
use Rattle.std.proofs.Common.{◌≡◌, List, [], ◌∷◌, true, false, None, Ok, Err, subst, sym}
use Rattle.std.specs.Result.{is_err}
use Rattle.std.specs.declared.option.Option.{Option}
use Rattle.std.specs.declared.result.Result.{Result}
use Rattle.lt_io.specs.Outside.{beside}
use Rattle.lt_io.specs.Programs.{Programs, Same}
use Rattle.lt_io.specs.Sink.{Sink}
use Rattle.lt_loop.specs.CoreState.{CoreState}
use Rattle.lt_loop.specs.InputSource.{InputSource}
use Rattle.lt_campaign.specs.Campaign.{AllClose, AllStart, AllWantTurns, Blamed, IsPlayed, blamed_from}
use Rattle.lt_campaign.specs.Campaign as campaign
use Rattle.lt_campaign.specs.Session.{Session, Starts, both, no_controller, no_oracle}
use Rattle.lt_campaign.specs.declared.campaign_end.CampaignEnd.{CampaignEnd}
use Rattle.lt_campaign.specs.declared.campaign_end.CampaignEnd.TheVariants as campaign_end
use Rattle.lt_campaign.specs.declared.starting.NoMemory.{NoMemory}
use Rattle.lt_campaign.specs.inner.Fitting.{AllFit, IsFit}
use Rattle.lt_campaign.specs.inner.Parting.{Written, WrittenNot, at_end, in_round}
use Rattle.lt_campaign.specs.inner.Starting.{StartsAll, StartsSome}

-- ---- sessions fit their cores

module _ {State : Type 0} (c o : InputSource) where
  one_fits : (core : CoreState State) (old new : Programs) (s : Session State) → AllWantTurns (core ∷ []) → Starts c o core old new s → IsFit s
  one_fits core old new _ wants (both cl ol mid first second) = wants.0
  one_fits core old new _ wants (no_controller not) = tt
  one_fits core old new _ wants (no_oracle cl mid first not) = tt

  -- those whose cores want turns do
  pub all_fit : (cores : List (CoreState State)) (old new : Programs) (ss : List (Session State)) → AllWantTurns cores → AllStart c o cores old new ss → AllFit ss
  all_fit [] old new [] wants starts = tt
  all_fit [] old new (s ∷ ss) wants starts = absurd starts
  all_fit (core ∷ cores) old new [] wants starts = absurd starts
  all_fit (core ∷ cores) old new (s ∷ ss) wants starts = (one_fits core old starts.0 s (wants.0, tt) starts.1, all_fit cores starts.0 new ss wants.1 starts.2)

  -- ---- whether all were started

  pub all_started : (r : Result (Unit {0}) NoMemory) (cores : List (CoreState State)) (old new : Programs) (ss : List (Session State)) → is_err r ≡ false → StartsAll r c o cores old new ss → AllStart c o cores old new ss
  all_started (Ok u) cores old new ss is starts = starts
  all_started (Err f) cores old new ss is starts = absurd (cc is)

  pub some_started : (r : Result (Unit {0}) NoMemory) (cores : List (CoreState State)) (old new : Programs) (ss : List (Session State)) → is_err r ≡ true → StartsAll r c o cores old new ss → StartsSome c o cores old new ss
  some_started (Ok u) cores old new ss is starts = absurd (cc is)
  some_started (Err f) cores old new ss is starts = starts

  -- ---- what comes of it

  module _ (cores : List (CoreState State)) (old later new : Programs) (before after : Sink) where
    -- memory ran out before the first session
    pub no_room : (end : CampaignEnd) (blamed : Option Blamed) → end ≡ campaign_end.Memory → blamed ≡ None → Same old new → after ≡ before → IsPlayed c o cores (beside old before) (beside new after) end blamed
    no_room end blamed is none same still =
        subst (λ (e : CampaignEnd). IsPlayed c o cores (beside old before) (beside new after) e blamed) (sym is)
        (subst (λ (b : Option Blamed). IsPlayed c o cores (beside old before) (beside new after) campaign_end.Memory b) (sym none) (campaign.memory_first same still))

    -- memory ran out at a session
    pub no_more_room : (end : CampaignEnd) (blamed : Option Blamed) (ss : List (Session State)) → end ≡ campaign_end.Memory → blamed ≡ None → StartsSome c o cores old later ss → AllClose c o later new ss → after ≡ before →
        IsPlayed c o cores (beside old before) (beside new after) end blamed
    no_more_room end blamed ss is none some closes still =
        subst (λ (e : CampaignEnd). IsPlayed c o cores (beside old before) (beside new after) e blamed) (sym is)
        (subst (λ (b : Option Blamed). IsPlayed c o cores (beside old before) (beside new after) campaign_end.Memory b) (sym none)
        (campaign.memory_later some.before some.core some.behind some.first some.left some.mid later some.all some.start some.start_not (subst (AllClose c o later new) some.are closes) still))

    module _ (first last : List (Session State)) (starts : AllStart c o cores old later first) (closes : AllClose c o later new last) where
      -- all was written
      pub all_written : (blamed : Option Blamed) → blamed ≡ blamed_from 0 last → Written first last before after → IsPlayed c o cores (beside old before) (beside new after) campaign_end.Finished blamed
      all_written blamed is w =
          subst (IsPlayed c o cores (beside old before) (beside new after) campaign_end.Finished) (sym is)
          (campaign.whole first last later w.rounds starts w.plays w.over closes w.text w.calm)

      not_written : WrittenNot first last before after → IsPlayed c o cores (beside old before) (beside new after) campaign_end.TraceWriteFailed None
      not_written (in_round p) = campaign.cut first p.mid last later p.rounds p.last.count p.last.parts starts p.plays p.last.round closes p.last.cut
      not_written (at_end rounds plays over cut) = campaign.cut_at_end first last later rounds starts plays over closes cut

      -- a write failed
      pub some_written : (end : CampaignEnd) (blamed : Option Blamed) → end ≡ campaign_end.TraceWriteFailed → blamed ≡ None → WrittenNot first last before after → IsPlayed c o cores (beside old before) (beside new after) end blamed
      some_written end blamed is none w =
          subst (λ (e : CampaignEnd). IsPlayed c o cores (beside old before) (beside new after) e blamed) (sym is)
          (subst (λ (b : Option Blamed). IsPlayed c o cores (beside old before) (beside new after) campaign_end.TraceWriteFailed b) (sym none) (not_written w))
