-- A session of a campaign: how it is started, what it does in a round, how it ends and is closed.
use Rattle.std.specs.Prelude.{ℕ, Bool, true, false, List, [], ◌∷◌, None, Some}
use Rattle.std.specs.declared.option.Option.{Option}
use Rattle.lt_io.specs.Link.{Link}
use Rattle.lt_io.specs.Programs.{Programs, Same}
use Rattle.lt_loop.specs.CoreState.{CoreState}
use Rattle.lt_loop.specs.InputSource.{InputSource}
use Rattle.lt_loop.specs.Run.{Answers}
use Rattle.lt_loop.specs.declared.event.PieceKind.{PieceKind}
use Rattle.lt_loop.specs.declared.event.Wants.{Wants}
use Rattle.lt_loop.specs.declared.event.Wants.TheVariants as wants
use Rattle.lt_rif.specs.declared.end.End.TheVariants as end
use Rattle.lt_rif.specs.declared.end.Who.{Who}
use Rattle.lt_rif.specs.declared.end.Who.TheVariants as who
use Rattle.lt_session.specs.Session.{Closes, Opens}
use Rattle.lt_session.specs.Side.{IsNotStarted}
use Rattle.lt_campaign.specs.Run.{Run, TakesPart, traced}
use Rattle.lt_campaign.specs.declared.campaign_end.Outcome.{Outcome}
use Rattle.lt_campaign.specs.declared.campaign_end.Outcome.TheVariants as outcome

-- a session
pub data Session (State : Type 0) : Type 0 where
  -- it was started, and its run stands there
  started : Run (CoreState State) → Session State
  -- the program of this side could not be started; the controller's link is there where it was
  unstarted : Who → Option Link → Session State

-- a run before its first event: it wants a turn
abbrev pub first_run : {State : Type 0} → CoreState State → Link → Link → Run (CoreState State)
first_run core c o = record {
  standing = record { core = core; links = record { controller = c; oracle = o } };
  wanted = wants.Turn;
  broken = None;
}

-- A session with these sources of its sides' replies was started, the controller first. A row a
-- way.
pub data Starts {State : Type 0} (controller oracle : InputSource) (core : CoreState State)
    (old new : Programs) : Session State → Type 0 where
  -- both sides were opened
  both : (c o : Link) (mid : Programs) → Opens controller old mid c → Opens oracle mid new o →
      Starts controller oracle core old new (started (first_run core c o))
  -- the controller's program could not be started
  no_controller : IsNotStarted controller old new →
      Starts controller oracle core old new (unstarted who.Controller None)
  -- the oracle's program could not be started
  no_oracle : (c : Link) (mid : Programs) → Opens controller old mid c →
      IsNotStarted oracle mid new →
      Starts controller oracle core old new (unstarted who.Oracle (Some c))

-- Memory ran out where a session was to be started. What it leaves is to be closed. A row a way.
pub data StartsNot {State : Type 0} (controller : InputSource) (old new : Programs) :
    List (Session State) → Type 0 where
  -- at the controller: nothing is left
  at_controller : Same old new → StartsNot controller old new []
  -- at the oracle: the controller's link is
  at_oracle : (c : Link) (mid : Programs) → Opens controller old mid c → Same mid new →
      StartsNot controller old new (unstarted who.Oracle (Some c) ∷ [])

-- A session took its part of a round, and this is for the trace, if something is. A row a kind.
pub data TakesItsPart {State : Type 0} : Session State → Session State → Option (List ℕ) →
    Type 0 where
  -- its run took its part
  of_run : (old new : Run (CoreState State)) (text : List ℕ) (kind : Option PieceKind) →
      TakesPart Answers old new text kind →
      TakesItsPart (started old) (started new) (traced kind text)
  -- one that wasn't started has none
  of_none : (w : Who) (c : Option Link) → TakesItsPart (unstarted w c) (unstarted w c) None

-- how a run ended, if it has: one that is to be told a fault goes on
abbrev pub run_outcome : Option Who → Wants → ℕ → Option Outcome
run_outcome None (wants.Nothing e) steps = Some (outcome.Ended e steps)
run_outcome broken wanted steps = None

-- how a session ended, if it has
abbrev pub outcome_of : {State : Type 0} → Session State → Option Outcome
outcome_of (started r) = run_outcome r.broken r.wanted r.standing.core.written
outcome_of (unstarted w c) = Some (outcome.Never w)

-- whether it ended well: its scenario is over, or at the limit of its steps
abbrev pub is_well : Outcome → Bool
is_well (outcome.Ended end.Normal steps) = true
is_well (outcome.Ended end.Limit steps) = true
is_well other = false

-- the names of its scenario's exceptions; none where it wasn't started
abbrev pub names_of : {State : Type 0} → Session State → List (List ℕ)
names_of (started r) = r.standing.core.plan.scene.exceptions
names_of (unstarted w c) = []

-- A session was closed: its links were given back, the controller's first. A row a kind.
pub data IsClosed {State : Type 0} (controller oracle : InputSource) (old new : Programs) :
    Session State → Type 0 where
  of_run : (r : Run (CoreState State)) (mid : Programs) →
      Closes controller old mid r.standing.links.controller →
      Closes oracle mid new r.standing.links.oracle →
      IsClosed controller oracle old new (started r)
  of_one : (w : Who) (c : Link) → Closes controller old new c →
      IsClosed controller oracle old new (unstarted w (Some c))
  of_none : (w : Who) → Same old new → IsClosed controller oracle old new (unstarted w None)
