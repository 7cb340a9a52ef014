-- The runs and sessions of the code.
use Rattle.std.specs.Prelude.{List, [], ◌∷◌, None, Some}
use Rattle.std.specs.declared.option.Option.{Option}
use Rattle.std.specs.Option.{option_map}
use Rattle.lt_io.specs.Link.{Link}
use Rattle.lt_loop.specs.CoreState.{CoreState}
use Rattle.lt_loop.specs.CoreView.{core_state}
use Rattle.lt_loop.specs.InputSource.{InputSource}
use Rattle.lt_session.specs.Side.{IsOf, side_link}
use Rattle.lt_session.specs.declared.side.Side.{Side}
use Rattle.lt_campaign.specs.Run.{Run}
use Rattle.lt_campaign.specs.Session.{Session, started, unstarted}
use Rattle.lt_campaign.specs.declared.run.Run as code
use Rattle.lt_campaign.specs.declared.session.Session as sessions
use Rattle.lt_campaign.specs.declared.session.Session.TheVariants as session

-- where a run of the code stands
abbrev pub run_view : {M : _} {L : Type 0} {b : _} → (L → Link) → code.Run M L b →
    Run (CoreState b.State)
run_view state r = record {
  standing = record {
    core = core_state r.core;
    links = record {
      controller = side_link state r.controller;
      oracle = side_link state r.oracle;
    };
  };
  wanted = r.wants;
  broken = r.broken;
}

-- where a session of the code stands
abbrev pub session_view : {M : _} {L : Type 0} {b : _} → (L → Link) → sessions.Session M L b →
    Session b.State
session_view state (session.Started r) = started (run_view state r)
session_view state (session.Unstarted w c) = unstarted w (option_map (side_link state) c)

-- a side is of the kind of its source, where there is one
abbrev pub MayBeOf : {L : Type 0} → InputSource → Option (Side L) → Type 0
MayBeOf source None = Unit {0}
MayBeOf source (Some s) = IsOf source s

-- the sides of a session of the code are of the kinds of these sources
abbrev pub HasKinds : {M : _} {L : Type 0} {b : _} → InputSource → InputSource →
    sessions.Session M L b → Type 0
HasKinds controller oracle (session.Started r) = IsOf controller r.controller × IsOf oracle r.oracle
HasKinds controller oracle (session.Unstarted w c) = MayBeOf controller c

-- the same of each session
abbrev pub AllHaveKinds : {M : _} {L : Type 0} {b : _} → InputSource → InputSource →
    List (sessions.Session M L b) → Type 0
AllHaveKinds controller oracle [] = Unit {0}
AllHaveKinds controller oracle (s ∷ ss) =
    HasKinds controller oracle s × AllHaveKinds controller oracle ss
