-- What a trace shows of the scenario that wrote it.
use Rattle.std.specs.Prelude.{◌≡◌, ◌≢◌, ◌<◌, ◌≤◌, ◌+◌, ◌^◌, ℕ, true, List, [], ◌∷◌, length, None, Some, Ok}
use Rattle.std.specs.declared.option.Option.{Option}
use Rattle.lt_draw.specs.declared.directions.Draw.{Draw}
use Rattle.lt_num.specs.Bounds.{most_decimals}
use Rattle.lt_num.specs.declared.value.Value.{Value}
use Rattle.lt_rif.specs.Reply.{Stream, longest}
use Rattle.lt_rif.specs.declared.end.End.{End}
use Rattle.lt_loop.specs.CoreView.{plan_of}
use Rattle.lt_loop.specs.Machine.{GivenUp, giving_up, most_steps}
use Rattle.lt_loop.specs.Plan.{opening_text}
use Rattle.lt_loop.specs.Play.{Piece, Play, Stop, ends, untold, step_count, stopped}
use Rattle.lt_loop.specs.Run.{pieces_then}
use Rattle.lt_loop.specs.Scene.{first_inputs}
use Rattle.lt_loop.specs.Stands.{is_served}
use Rattle.lt_loop.specs.declared.setup.Setup.{Setup}
use Rattle.lt_loop.specs.declared.setup.Talk.TheVariants as talk
use Rattle.lt_trace_laws.specs.Replay.{IsTraceable, ShowsFor, first_step, is_replayable, trace_text, whole_text}
use Rattle.lt_trace_laws.specs.Shown.{Begins, IsTold, open_text, shown_replies, shown_verdicts}
use Rattle.lt_instant.specs.Instant.{instant_of, values}
use Rattle.lt_step.specs.Machine.{started}
use Rattle.lt_term.specs.Configuration.{Configuration}
use Rattle.lt_term.specs.Fitting.{IsValueOf}
use Rattle.lt_term.specs.Scene.{Scene, Variable}
use Rattle.lt_play.specs.Rules.{known_scene, scenario_rules}
use Rattle.lt_play.specs.Run.{scenario_play}
use Rattle.lt_frontend.specs.Prepared.{IsScenarioAnswer}

-- This is the scenario of a text, where reals have so many decimals, as many as may be, and this node is asked for.
pub record IsScenarioOf (decimals : ℕ) (node : Option (List ℕ)) (text : List ℕ) (scene : Scene) : Type 0 where
  pub few : decimals ≤ most_decimals
  pub is : IsScenarioAnswer decimals node text (Ok scene)

-- A run of so many steps at most has a scenario, with somebody to give its inputs values where it has some.
pub record IsRunOf (decimals : ℕ) (node : Option (List ℕ)) (text : List ℕ) (scene : Scene) (setup : Setup) : Type 0 where
  pub scenario : IsScenarioOf decimals node text scene
  pub limit : setup.limit ≤ most_steps
  pub served : is_served setup.controller (known_scene scene) ≡ true

-- ---- what a scenario's instants give and show

-- there is a value for each variable, in turn: of its kind, and with a point of its range
abbrev pub AreValuesOf : List Variable → List Value → Type 0
AreValuesOf [] [] = Unit {0}
AreValuesOf (v ∷ vs) (x ∷ xs) = IsValueOf v.kind v.range x × AreValuesOf vs xs
AreValuesOf vs xs = ⊥

-- the same, but some variables have no value
abbrev pub MayBeValuesOf : List Variable → List (Option Value) → Type 0
MayBeValuesOf [] [] = Unit {0}
MayBeValuesOf (v ∷ vs) (None ∷ xs) = MayBeValuesOf vs xs
MayBeValuesOf (v ∷ vs) (Some x ∷ xs) = IsValueOf v.kind v.range x × MayBeValuesOf vs xs
MayBeValuesOf vs xs = ⊥

-- Each instant that gives values gives each output one of its own, and where it gives a local a value, that is one of its own
-- too: wherever the run stands, by whatever seed and rule of drawing, and with whatever inputs.
abbrev pub InstantsGiveTheirOwn : Type 0
InstantsGiveTheirOwn =
    (decimals : ℕ) (node : Option (List ℕ)) (text : List ℕ) (scene : Scene) (seed : ℕ) (draw : Draw) (c next : Configuration) (inputs outputs : List Value) (locals : List (Option Value)) →
    IsScenarioOf decimals node text scene → instant_of scene seed draw c inputs ≡ values outputs locals next → AreValuesOf scene.outputs outputs × MayBeValuesOf scene.locals locals

-- The trace of every scenario can be read back.
abbrev pub ScenariosAreTraceable : Type 0
ScenariosAreTraceable = (decimals : ℕ) (node : Option (List ℕ)) (text : List ℕ) (scene : Scene) → IsScenarioOf decimals node text scene → IsTraceable (known_scene scene)

-- And so can what each instant of its runs shows, by whatever seed and rule of drawing, within whatever budget, with whatever
-- inputs, and whatever instant is given up.
abbrev pub ScenariosShowTheirInstants : Type 0
ScenariosShowTheirInstants =
    (decimals : ℕ) (node : Option (List ℕ)) (text : List ℕ) (scene : Scene) (seed budget : ℕ) (draw : Draw) (limit : ℕ) (u : Option GivenUp) → IsScenarioOf decimals node text scene →
    ShowsFor (giving_up u scenario_rules) (known_scene scene) limit (started scene seed budget draw) (first_inputs (known_scene scene))

-- ---- runs that are played again

-- the same run, with a trace in place of its controller
abbrev pub with_replay : Setup → Setup
with_replay setup = record setup { controller = talk.Replay }

-- how many bytes the header and the first step of a run have together, where that step is written
abbrev pub opening_length : Scene → ℕ → Setup → Option GivenUp → Stream → ℕ
opening_length scene budget setup u c =
    let plan = plan_of (known_scene scene) setup in
    length (opening_text plan) + length (first_step (giving_up u scenario_rules) plan setup.limit (started scene setup.seed budget setup.draw) c)

-- A scenario's run that is played again from its own trace, with the same stream of the oracle, has the same trace and as many
-- steps, and ends in the same way: where it ended in a way that can be played again, and where its header and its first step
-- have room in one reply.
abbrev pub ScenarioReplaysAreTheSame : Type 0
ScenarioReplaysAreTheSame =
    (decimals : ℕ) (node : Option (List ℕ)) (text : List ℕ) (scene : Scene) (budget : ℕ) (setup : Setup) (u : Option GivenUp) (c o : Stream) (e : End) →
    IsRunOf decimals node text scene setup → setup.seed < 2 ^ 64 →
    (let run = scenario_play scene budget setup u c o in
    run.stop ≡ ends e → is_replayable e ≡ true → opening_length scene budget setup u c ≤ longest →
    (let again = scenario_play scene budget (with_replay setup) u (whole_text (trace_text run.pieces)) o in
    (trace_text again.pieces ≡ trace_text run.pieces) × (again.stop ≡ ends e) × (step_count again.pieces ≡ step_count run.pieces)))

-- ---- runs that are told by their traces

-- The play of a scenario on what some pieces show: on the lines of the replies that their steps show, and on a true verdict
-- for each step, but a false one for the last step where the oracle ended the run.
abbrev pub shown_run : Scene → ℕ → Setup → Option GivenUp → List Piece → Stop → Play
shown_run scene budget setup u ps stop = scenario_play scene budget setup u (open_text (shown_replies (plan_of (known_scene scene) setup) ps)) (open_text (shown_verdicts ps stop))

-- A scenario's run that has ended is told by the play on what it shows.
abbrev pub ScenarioTracesShowTheirRun : Type 0
ScenarioTracesShowTheirRun =
    (decimals : ℕ) (node : Option (List ℕ)) (text : List ℕ) (scene : Scene) (budget : ℕ) (setup : Setup) (u : Option GivenUp) (c o : Stream) (e : End) → IsRunOf decimals node text scene setup →
    (let run = scenario_play scene budget setup u c o in
    run.stop ≡ ends e → IsTold (plan_of (known_scene scene) setup) e (shown_run scene budget setup u run.pieces run.stop) run)

-- Where it was cut after some pieces, before its end, the play on what they show begins with these pieces.
abbrev pub ScenarioPrefixesShowTheirRun : Type 0
ScenarioPrefixesShowTheirRun =
    (decimals : ℕ) (node : Option (List ℕ)) (text : List ℕ) (scene : Scene) (budget : ℕ) (setup : Setup) (u : Option GivenUp) (c o : Stream) (ps : List Piece) (rest : Play) → IsRunOf decimals node text scene setup →
    scenario_play scene budget setup u c o ≡ pieces_then ps rest → ((e : End) → rest ≢ stopped (ends e)) →
    Begins (shown_run scene budget setup u ps untold) ps
