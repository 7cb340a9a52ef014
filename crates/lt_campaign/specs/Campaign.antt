-- Many runs of one scenario, side by side: what comes of a campaign.
use Rattle.std.specs.Prelude.{◌≡◌, ◌<◌, ◌≤◌, ◌+◌, ◌-◌, ℕ, Bool, true, false, if◌then◌else◌, List, [], ◌∷◌, ◌++◌, length, take, None, Some}
use Rattle.std.specs.Io.KnownBytes.{Appends}
use Rattle.std.specs.Option.{is_some}
use Rattle.std.specs.declared.option.Option.{Option}
use Rattle.lt_io.specs.Causes.{Rose}
use Rattle.lt_io.specs.Outside.{Outside}
use Rattle.lt_io.specs.Programs.{Programs, Same}
use Rattle.lt_io.specs.Sink.{Sink}
use Rattle.lt_loop.specs.CoreState.{CoreState}
use Rattle.lt_loop.specs.Event.{WantsTell}
use Rattle.lt_loop.specs.InputSource.{InputSource}
use Rattle.lt_loop.specs.declared.event.Wants.TheVariants as wants
use Rattle.lt_campaign.specs.Rounds.{AreRounds, IsRoundTo, Parts, campaign_line, framed, rounds_text}
use Rattle.lt_campaign.specs.Session.{IsClosed, Session, Starts, StartsNot, is_well, names_of, outcome_of}
use Rattle.lt_campaign.specs.declared.campaign_end.CampaignEnd.{CampaignEnd}
use Rattle.lt_campaign.specs.declared.campaign_end.CampaignEnd.TheVariants as campaign_end
use Rattle.lt_campaign.specs.declared.campaign_end.Outcome.{Outcome}

-- each core wants a turn, as one before its first event does
abbrev pub AllWantTurns : {State : Type 0} → List (CoreState State) → Type 0
AllWantTurns [] = Unit {0}
AllWantTurns (core ∷ cores) = WantsTell core wants.Turn × AllWantTurns cores

-- Sessions with these cores were started, one after another.
abbrev pub AllStart : {State : Type 0} → InputSource → InputSource → List (CoreState State) →
    Programs → Programs → List (Session State) → Type 0
AllStart controller oracle [] old new [] = Same old new
AllStart controller oracle (core ∷ cores) old new (s ∷ ss) =
    (mid : Programs) × Starts controller oracle core old mid s
    × AllStart controller oracle cores mid new ss
AllStart controller oracle cores old new sessions = ⊥

-- Sessions were closed, one after another.
abbrev pub AllClose : {State : Type 0} → InputSource → InputSource → Programs → Programs →
    List (Session State) → Type 0
AllClose controller oracle old new [] = Same old new
AllClose controller oracle old new (s ∷ ss) =
    (mid : Programs) × IsClosed controller oracle old mid s × AllClose controller oracle mid new ss

-- the first of two, where it is there, and else the second
abbrev pub first_of : {A : Type 0} → Option A → Option A → Option A
first_of (Some x) other = Some x
first_of None other = other

-- whether a session has ended well
abbrev pub ends_well : Option Outcome → Bool
ends_well None = false
ends_well (Some how) = is_well how

-- all sessions have ended, or were never started
abbrev pub AllOver : {State : Type 0} → List (Session State) → Type 0
AllOver [] = Unit {0}
AllOver (s ∷ ss) = (is_some (outcome_of s) ≡ true) × AllOver ss

-- how many ended well
abbrev pub well_count : {State : Type 0} → List (Session State) → ℕ
well_count [] = 0
well_count (s ∷ ss) = (if ends_well (outcome_of s) then 1 else 0) + well_count ss

-- a session that didn't end well: its number, how it ended, and the names of its exceptions
pub record Blamed : Type 0 where
  pub session : ℕ
  pub outcome : Outcome
  pub names : List (List ℕ)

-- a session of this number that ended so, if it has, and didn't end well
abbrev pub blame : ℕ → Option Outcome → List (List ℕ) → Option Blamed
blame n None names = None
blame n (Some how) names =
    if is_well how then None else Some (record { session = n; outcome = how; names = names })

-- the first of these sessions, whose numbers begin with this one, that ended, and not well
abbrev pub blamed_from : {State : Type 0} → ℕ → List (Session State) → Option Blamed
blamed_from n [] = None
blamed_from n (s ∷ ss) = first_of (blame n (outcome_of s) (names_of s)) (blamed_from (n + 1) ss)

-- A write to a trace failed: a front of this text was written, which is not all of it. Where the
-- trace gathers no texts, this part of it at least was.
pub record IsCutText (old new : Sink) (before text : List ℕ) : Type 0 where
  pub written : List ℕ
  pub rest : List ℕ
  pub appends : Appends old.written new.written written
  pub front : written ++ rest ≡ text
  pub cut : 0 < length rest
  pub prompt : old.gathers ≡ false → length before ≤ length written
  pub rose : Rose old.faults new.faults

-- A campaign of sessions with these cores was played from one moment to another, with these sources
-- of their sides' replies; this is the first session that didn't end well, where one is told. A row
-- a way.
pub data IsPlayed {State : Type 0} (controller oracle : InputSource)
    (cores : List (CoreState State))
    (old new : Outside Programs) : CampaignEnd → Option Blamed → Type 0 where
  -- All sessions were started, one after another, went in rounds to their ends, and were closed;
  -- the trace was written what they had for it, each piece in its frame, and the line at the end.
  whole : (first last : List (Session State)) (mid : Programs) (rounds : List Parts) →
      AllStart controller oracle cores old.inputs mid first → AreRounds first rounds last →
      AllOver last →
      AllClose controller oracle mid new.inputs last →
      Appends old.trace.written new.trace.written
      (rounds_text rounds ++ campaign_line (length last) (well_count last)) →
      new.trace.faults ≡ old.trace.faults →
      IsPlayed controller oracle cores old new campaign_end.Finished (blamed_from 0 last)
  -- A write failed in a round, in which so many sessions had taken their parts.
  cut : (first behind last : List (Session State)) (mid : Programs) (rounds : List Parts)
      (count : ℕ) (parts : Parts) →
      AllStart controller oracle cores old.inputs mid first → AreRounds first rounds behind →
      IsRoundTo count behind last parts → AllClose controller oracle mid new.inputs last →
      IsCutText old.trace new.trace (rounds_text rounds ++ framed 0 (take (count - 1) parts))
      (rounds_text rounds ++ framed 0 parts) →
      IsPlayed controller oracle cores old new campaign_end.TraceWriteFailed None
  -- A write failed at the end line.
  cut_at_end : (first last : List (Session State)) (mid : Programs) (rounds : List Parts) →
      AllStart controller oracle cores old.inputs mid first → AreRounds first rounds last →
      AllOver last →
      AllClose controller oracle mid new.inputs last →
      IsCutText old.trace new.trace (rounds_text rounds)
      (rounds_text rounds ++ campaign_line (length last) (well_count last)) →
      IsPlayed controller oracle cores old new campaign_end.TraceWriteFailed None
  -- Memory ran out before the first session was started.
  memory_first : Same old.inputs new.inputs → new.trace ≡ old.trace →
      IsPlayed controller oracle cores old new campaign_end.Memory None
  -- Memory ran out at the start of a session behind these: all links were given back.
  memory_later : (before : List (CoreState State)) (core : CoreState State)
      (behind : List (CoreState State)) (first left : List (Session State)) (mid later : Programs) →
      cores ≡ before ++ core ∷ behind → AllStart controller oracle before old.inputs mid first →
      StartsNot controller mid later left →
      AllClose controller oracle later new.inputs (first ++ left) →
      new.trace ≡ old.trace → IsPlayed controller oracle cores old new campaign_end.Memory None
