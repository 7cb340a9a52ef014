-- What a run of a scenario writes to its trace is a legal run, whatever its seed and its rule of drawing are.
use Rattle.std.specs.Prelude.{◌≡◌, ◌<◌, ◌≤◌, ℕ, ◌+◌, ◌^◌, List, [], ◌∷◌, ◌++◌, length, None, Some}
use Rattle.std.specs.declared.option.Option.{Option}
use Rattle.lt_rif.specs.Reply.{Stream}
use Rattle.lt_rif.specs.Trace.{end_number}
use Rattle.lt_rif.specs.declared.end.End.{End}
use Rattle.lt_rif.specs.declared.end.End.TheVariants as end
use Rattle.lt_loop.specs.CoreView.{plan_of}
use Rattle.lt_loop.specs.Machine.{GivenUp, most_steps}
use Rattle.lt_loop.specs.Plan.{Plan, closing_text, opening_text, traced_step}
use Rattle.lt_loop.specs.Play.{ends}
use Rattle.lt_loop.specs.declared.setup.Setup.{Setup}
use Rattle.lt_trace.specs.End.{recorded_of}
use Rattle.lt_trace.specs.Shape.{IsShown}
use Rattle.lt_trace.specs.Told.{Shown}
use Rattle.lt_trace_laws.specs.Replay.{trace_text}
use Rattle.lt_term.specs.Scene.{Scene}
use Rattle.lt_play.specs.Rules.{known_scene}
use Rattle.lt_play.specs.Run.{scenario_play}
use Rattle.lt_legal.specs.LegalRun.{IsLegalRun}
use Rattle.lt_check.specs.Shape.{trace_shape}
use Rattle.lt_scenario_laws.specs.Traced.{IsRunOf}

-- A text is that of a header and of some steps in turn, each with its number. Each step is one that a trace of the scenario
-- may show.
pub data AreWritten (s : Scene) (plan : Plan) : List Shown → List ℕ → Type 0 where
  header : AreWritten s plan [] (opening_text plan)
  one_more : (steps : List Shown) (step : Shown) (text : List ℕ) → AreWritten s plan steps text →
      IsShown (trace_shape s) step → AreWritten s plan (steps ++ step ∷ [])
      (text ++ traced_step plan (length steps + 1) step.outputs step.inputs step.locals)

-- the need of an instant that is given up is a number of 128 bits
abbrev pub HasShortNeed : Option GivenUp → Type 0
HasShortNeed None = Unit {0}
HasShortNeed (Some u) = u.need < 2 ^ 128

-- Behind so many steps a run may end so: an oracle has judged a step, and a need that is told has 128 bits.
abbrev pub MayEndBehind : End → ℕ → Type 0
MayEndBehind end.Oracle steps = 0 < steps
MayEndBehind (end.Budget need) steps = need < 2 ^ 128
MayEndBehind _ steps = Unit {0}

-- A text is that of a header, of steps and of the line of an end; and these steps with this end are a legal run.
pub record IsOfLegalRun (s : Scene) (plan : Plan) (e : End) (text : List ℕ) : Type 0 where
  pub steps : List Shown
  pub front : List ℕ
  pub written : AreWritten s plan steps front
  pub whole : text ≡ front ++ closing_text plan e (end_number e (length steps))
  pub few : length steps ≤ most_steps
  pub may : MayEndBehind e (length steps)
  pub legal : IsLegalRun s (record { steps = steps; end = recorded_of e })

-- What a run that ended writes to its trace is such a text: of whatever scenario and whatever sides, by whatever seed and rule
-- of drawing, and whatever instant is given up.
abbrev pub RunsAreLegal : Type 0
RunsAreLegal =
    (decimals : ℕ) (node : Option (List ℕ)) (text : List ℕ) (s : Scene) (budget : ℕ) (setup : Setup)
    (u : Option GivenUp) (c o : Stream) (e : End) →
    IsRunOf decimals node text s setup → HasShortNeed u →
    (let run = scenario_play s budget setup u c o in
    run.stop ≡ ends e → IsOfLegalRun s (plan_of (known_scene s) setup) e (trace_text run.pieces))
