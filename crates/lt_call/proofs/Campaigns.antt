-- What a campaign gives.
use Rattle.std.proofs.Common.{◌≡◌, ◌≢◌, ℕ, ◌+◌, Bool, true, false, List, [], ◌∷◌, length, None, Some, refl, ap, sym, subst, inl}
use Rattle.std.specs.declared.option.Option.{Option}
use Rattle.lt_campaign.specs.Campaign as campaign
use Rattle.lt_campaign.specs.Campaign.{AllWantTurns, Blamed, IsPlayed, blamed_from}
use Rattle.lt_campaign.specs.Cause.{BlameHasACause, Blames, broken, unstarted}
use Rattle.lt_campaign.specs.declared.campaign_end.CampaignEnd.{CampaignEnd}
use Rattle.lt_campaign.specs.declared.campaign_end.CampaignEnd.TheVariants as campaign_end
use Rattle.lt_campaign.specs.declared.campaign_end.Outcome.{Outcome}
use Rattle.lt_campaign.specs.declared.campaign_end.Outcome.TheVariants as outcome
use Rattle.lt_io.specs.Causes.{Rose}
use Rattle.lt_io.specs.Outside.{Outside}
use Rattle.lt_io.specs.Programs.{Programs}
use Rattle.lt_io.specs.Sink.{Sink}
use Rattle.lt_loop.specs.CoreState.{CoreState}
use Rattle.lt_loop.specs.InputSource.{InputSource, with_contents}
use Rattle.lt_rif.specs.declared.end.End.{End}
use Rattle.lt_rif.specs.declared.end.End.TheVariants as end
use Rattle.lt_rif.specs.declared.end.Who.{Who}
use Rattle.lt_step.specs.Machine.{State}
use Rattle.lt_term.specs.Scene.{Scene}
use Rattle.lt_args.specs.Words.{Request}
use Rattle.lt_args.specs.declared.usage.UsageKind.{UsageKind}
use Rattle.lt_call.specs.Call.{IsCounted, blames, broke}
use Rattle.lt_call.specs.Due.{plays_many}
use Rattle.lt_call.specs.Given.{campaign_status, fate_of, names_by, ran_many, status_by}
use Rattle.lt_call.specs.Run.{AreFirstCores, oracle_of}
use Rattle.lt_call.specs.inner.Parts.{AnswersRun}
use Rattle.lt_call.specs.declared.status.Device.TheVariants as device
use Rattle.lt_call.specs.declared.status.Status.{Status}
use Rattle.lt_call.specs.declared.status.Status.TheVariants as status
use Rattle.lt_call.proofs.Runs.{either}

-- the first cores of runs want turns
pub all_want : (r : Request) (s : Scene) (n : ℕ) (cores : List (CoreState State)) → AreFirstCores r s n cores → AllWantTurns cores
all_want r s n [] first = tt
all_want r s n (core ∷ cores) first = (first.0.wants, all_want r s (n + 1) cores first.1)

-- ---- its status

by_usage : (blamed : Option Blamed) (kind : UsageKind) → status_by blamed ≡ status.Usage kind → ⊥
by_usage None kind e = cc e
by_usage (Some it) kind e = cc e

never_usage : (how : CampaignEnd) (blamed : Option Blamed) (kind : UsageKind) → campaign_status how blamed ≡ status.Usage kind → ⊥
never_usage campaign_end.Finished blamed kind e = by_usage blamed kind e
never_usage campaign_end.TraceWriteFailed blamed kind e = cc e
never_usage campaign_end.Memory blamed kind e = cc e

-- a session blames no file, and not the trace
no_file_in : (n : ℕ) (o : Outcome) → blames (status.Session n (fate_of o)) device.File ≡ false
no_file_in n (outcome.Ended e steps) = refl
no_file_in n (outcome.Never w) = refl

no_trace_in : (n : ℕ) (o : Outcome) → blames (status.Session n (fate_of o)) device.Trace ≡ false
no_trace_in n (outcome.Ended e steps) = refl
no_trace_in n (outcome.Never w) = refl

no_file_by : (blamed : Option Blamed) → blames (status_by blamed) device.File ≡ false
no_file_by None = refl
no_file_by (Some it) = no_file_in it.session it.outcome

no_trace_by : (blamed : Option Blamed) → blames (status_by blamed) device.Trace ≡ false
no_trace_by None = refl
no_trace_by (Some it) = no_trace_in it.session it.outcome

no_file : (how : CampaignEnd) (blamed : Option Blamed) → blames (campaign_status how blamed) device.File ≡ false
no_file campaign_end.Finished blamed = no_file_by blamed
no_file campaign_end.TraceWriteFailed blamed = refl
no_file campaign_end.Memory blamed = refl

-- a trace that isn't blamed
trace_calm : (b : Bool) (before now : ℕ) → b ≡ false → now ≡ before → IsCounted device.Trace b before now
trace_calm true before now e same = absurd (cc e)
trace_calm false before now e same = same

trace_counted : {State : Type 0} (controller oracle : InputSource) (cores : List (CoreState State)) (old new : Outside Programs) (how : CampaignEnd) (blamed : Option Blamed) → IsPlayed controller oracle cores old new how blamed →
    IsCounted device.Trace (blames (campaign_status how blamed) device.Trace) old.trace.faults new.trace.faults
trace_counted controller oracle cores old new _ _ (campaign.whole first last mid rounds starts goes over closes grows calm) =
    trace_calm (blames (status_by (blamed_from 0 last)) device.Trace) old.trace.faults new.trace.faults (no_trace_by (blamed_from 0 last)) calm
trace_counted controller oracle cores old new _ _ (campaign.cut first behind last mid rounds count parts starts goes round closes text) = text.rose
trace_counted controller oracle cores old new _ _ (campaign.cut_at_end first last mid rounds starts goes over closes text) = text.rose
trace_counted controller oracle cores old new _ _ (campaign.memory_first same trace_is) = ap (λ (t : Sink). t.faults) trace_is
trace_counted controller oracle cores old new _ _ (campaign.memory_later before core behind first left mid later all starts starts_not closes trace_is) = ap (λ (t : Sink). t.faults) trace_is

-- ---- a program that is blamed has a cause

broken_by : (e : End) (steps : ℕ) (w : Who) → broke e w ≡ true → Blames (outcome.Ended e steps)
broken_by (end.Device v) steps w h = broken v steps
broken_by end.Normal steps w h = absurd (cc h)
broken_by end.Limit steps w h = absurd (cc h)
broken_by end.Oracle steps w h = absurd (cc h)
broken_by end.Deadlock steps w h = absurd (cc h)
broken_by (end.Raise x) steps w h = absurd (cc h)
broken_by (end.Fault f) steps w h = absurd (cc h)
broken_by end.TooLarge steps w h = absurd (cc h)
broken_by (end.Malformed v f at) steps w h = absurd (cc h)
broken_by (end.Ended v at) steps w h = absurd (cc h)
broken_by (end.Budget n) steps w h = absurd (cc h)

blamed_for : (n : ℕ) (o : Outcome) (w : Who) → blames (status.Session n (fate_of o)) (device.Program w) ≡ true → Blames o
blamed_for n (outcome.Ended e steps) w h = broken_by e steps w h
blamed_for n (outcome.Never v) w h = unstarted v

caused_by : (blamed : Option Blamed) (w : Who) (A : Type 0) → ((it : Blamed) → blamed ≡ Some it → Blames it.outcome → A) → blames (status_by blamed) (device.Program w) ≡ true → A
caused_by None w A cause h = absurd (cc h)
caused_by (Some it) w A cause h = cause it refl (blamed_for it.session it.outcome w h)

caused : (how : CampaignEnd) (blamed : Option Blamed) (w : Who) (A : Type 0) → ((it : Blamed) → blamed ≡ Some it → Blames it.outcome → A) → blames (campaign_status how blamed) (device.Program w) ≡ true → A
caused campaign_end.Finished blamed w A cause h = caused_by blamed w A cause h
caused campaign_end.TraceWriteFailed blamed w A cause h = absurd (cc h)
caused campaign_end.Memory blamed w A cause h = absurd (cc h)

programs_counted : {State : Type 0} → BlameHasACause State → (controller oracle : InputSource) (cores : List (CoreState State)) (old new : Outside Programs) (how : CampaignEnd) (blamed : Option Blamed) (w : Who) → AllWantTurns cores →
    IsPlayed controller oracle cores old new how blamed → IsCounted (device.Program w) (blames (campaign_status how blamed) (device.Program w)) old.inputs.faults new.inputs.faults
programs_counted law controller oracle cores old new how blamed w turns is =
    let known = law controller oracle cores old new how blamed turns is in
    either (blames (campaign_status how blamed) (device.Program w)) w old.inputs.faults new.inputs.faults (caused how blamed w (Rose old.inputs.faults new.inputs.faults) known.1) known.0

-- ---- what is given

-- a campaign that was cut has no names of exceptions
pub no_names : {State : Type 0} (controller oracle : InputSource) (cores : List (CoreState State)) (old new : Outside Programs) (how : CampaignEnd) (blamed : Option Blamed) → IsPlayed controller oracle cores old new how blamed → how ≢ campaign_end.Finished → names_by blamed ≡ []
no_names controller oracle cores old new _ _ (campaign.whole first last mid rounds starts goes over closes grows calm) cut = absurd (cut refl)
no_names controller oracle cores old new _ _ (campaign.cut first behind last mid rounds count parts starts goes round closes text) cut = refl
no_names controller oracle cores old new _ _ (campaign.cut_at_end first last mid rounds starts goes over closes text) cut = refl
no_names controller oracle cores old new _ _ (campaign.memory_first same trace_is) cut = refl
no_names controller oracle cores old new _ _ (campaign.memory_later before core behind first left mid later all starts starts_not closes trace_is) cut = refl

pub campaign_given : BlameHasACause State → (r : Request) (s : Scene) (replay : List ℕ) (cores : List (CoreState State)) (old new : Outside Programs) (how : CampaignEnd) (blamed : Option Blamed) (names : List (List ℕ)) (t : Status) (from beside : InputSource) →
    length cores ≡ r.count → AreFirstCores r s 0 cores → from ≡ with_contents r.inputs replay → beside ≡ oracle_of r.oracle → IsPlayed from beside cores old new how blamed → names ≡ names_by blamed → t ≡ campaign_status how blamed →
    AnswersRun r replay (plays_many s) old new names t
campaign_given law r s replay cores old new how blamed names t from beside count first is_from is_beside is names_are status_is =
    let turns = all_want r s 0 cores first in
    let played_so : IsPlayed (with_contents r.inputs replay) (oracle_of r.oracle) cores old new how blamed =
    subst (λ x. IsPlayed x (oracle_of r.oracle) cores old new how blamed) is_from (subst (λ x. IsPlayed from x cores old new how blamed) is_beside is) in
    subst (λ ns. AnswersRun r replay (plays_many s) old new ns t) (sym names_are)
    (subst (λ x. AnswersRun r replay (plays_many s) old new (names_by blamed) x) (sym status_is)
    (record {
      runs = inl (ran_many s cores how blamed count first played_so);
      no_usage = never_usage how blamed;
      no_file = no_file how blamed;
      programs = λ w. programs_counted law from beside cores old new how blamed w turns is;
      trace = trace_counted from beside cores old new how blamed is;
    }))
