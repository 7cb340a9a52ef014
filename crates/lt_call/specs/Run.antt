-- The run of a scenario, as words ask for it.
use Rattle.std.specs.Prelude.{◌≡◌, ◌+◌, ◌%◌, ◌^◌, ℕ, List, [], ◌∷◌, None, Some}
use Rattle.std.specs.Option.{is_some}
use Rattle.std.specs.declared.option.Option.{Option}
use Rattle.lt_drive.specs.Drive.{Continuation}
use Rattle.lt_loop.specs.CoreState.{CoreState, core_giving_up, resume}
use Rattle.lt_loop.specs.CoreView.{stream_of}
use Rattle.lt_loop.specs.Event.{WantsTell}
use Rattle.lt_loop.specs.Machine.{GivenUp, giving_up}
use Rattle.lt_loop.specs.Plan.{Plan}
use Rattle.lt_loop.specs.Places.{ComesTo, EachInstant, Place, first_place}
use Rattle.lt_loop.specs.Play.{Piece, Play, play_of}
use Rattle.lt_loop.specs.Side.{Rest}
use Rattle.lt_play.specs.Rules.{known_scene, scenario_rules}
use Rattle.lt_loop.specs.InputSource.{InputSource, from_nobody, from_program, from_trace, talk_of}
use Rattle.lt_loop.specs.declared.event.Wants.TheVariants as wants
use Rattle.lt_step.specs.Machine.{CanAfford, State, started}
use Rattle.lt_term.specs.Scene.{Scene}
use Rattle.lt_args.specs.Words.{Request}

-- the files that a source takes, by name
abbrev pub files_of : InputSource → List (List ℕ)
files_of (from_trace name) = name ∷ []
files_of _ = []

-- where those of the oracle come from that is asked for, if one is
abbrev pub oracle_of : Option (List ℕ) → InputSource
oracle_of None = from_nobody
oracle_of (Some command) = from_program command

-- what the run of a scenario is told before it begins
abbrev pub plan_of : Request → Scene → Plan
plan_of request scene = record {
  scene = known_scene scene;
  seed = request.seed;
  draw = request.draw;
  writes_locals = request.locals;
  controller = talk_of request.inputs;
  has_oracle = is_some request.oracle;
}

-- the machine of a scenario before its first instant
abbrev pub first_machine : Request → Scene → State
first_machine request scene = started scene request.seed request.budget request.draw

-- the run of a scenario on the two streams, in which this instant is given up, or none: what it puts
-- out, and how it ends
abbrev pub run_of : Request → Scene → Option GivenUp → Rest → Rest → Play
run_of request scene u controller oracle =
    play_of (giving_up u scenario_rules) (plan_of request scene) request.limit
    (first_machine request scene) (stream_of controller) (stream_of oracle)

-- The run, of which none is given up, comes to an instant at this place: these are the pieces before
-- that instant.
abbrev pub RunComesTo : Request → Scene → Rest → Rest → List Piece → Place State → Type 0
RunComesTo request scene controller oracle ps p =
    ComesTo scenario_rules (plan_of request scene) request.limit (first_machine request scene)
    (stream_of controller) (stream_of oracle) ps p

-- each leaf at which the draws of the run arrive has a need within the budget
abbrev pub RunIsAffordable : Request → Scene → Rest → Rest → Type 0
RunIsAffordable request scene controller oracle =
    EachInstant CanAfford scenario_rules (plan_of request scene) request.limit
    (first_place (plan_of request scene) (first_machine request scene)
    (stream_of controller) (stream_of oracle))

-- this is the course of such a run, of which nothing was put out
pub record IsContinuationOf (request : Request) (scene : Scene) (k : Continuation) : Type 0 where
  pub plan : k.plan ≡ plan_of request scene
  pub unwritten : k.written ≡ 0
  pub gives_up : Option GivenUp
  pub plays : (controller oracle : Rest) → k.play controller oracle ≡ run_of request scene gives_up controller oracle

-- This is the core of such a run before its first event.
pub record IsFirstCore (request : Request) (scene : Scene) (core : CoreState State) : Type 0 where
  pub wants : WantsTell core wants.Turn
  pub plan : core.plan ≡ plan_of request scene
  pub unwritten : core.written ≡ 0
  pub plays : (u : Option GivenUp) (controller oracle : Rest) →
      resume (core_giving_up u core) controller oracle ≡ run_of request scene u controller oracle

-- what is asked for of the run of a session of this number, from 0, in a campaign: the seed is as much
-- greater, and goes on from 0 beyond the greatest
abbrev pub session_request : Request → ℕ → Request
session_request request session =
    record request { seed = (request.seed + session) % 2 ^ 64 }

-- These are the cores of the runs of a scenario in a campaign, from a session on.
abbrev pub AreFirstCores : Request → Scene → ℕ → List (CoreState State) → Type 0
AreFirstCores request scene session [] = Unit {0}
AreFirstCores request scene session (core ∷ cores) =
    IsFirstCore (session_request request session) scene core
    × AreFirstCores request scene (session + 1) cores
