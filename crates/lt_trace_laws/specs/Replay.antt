-- Runs that are played again from their own trace.
use Rattle.std.specs.Prelude.{◌≡◌, ◌≤◌, ◌<◌, ◌+◌, ◌^◌, ℕ, zero, suc, Bool, true, false, List, [], ◌∷◌, ◌++◌, length, map}
use Rattle.std.specs.declared.option.Option.{Option}
use Rattle.lt_num.specs.Bounds.{most_decimals}
use Rattle.lt_num.specs.declared.value.Value.{Value}
use Rattle.lt_rif.specs.Enough.{AreLocalsSized}
use Rattle.lt_rif.specs.ReadBack.{AreOnLines, HoldAll}
use Rattle.lt_rif.specs.Reply.{Stream, Reply, whole, longest}
use Rattle.lt_rif.specs.declared.end.End.{End}
use Rattle.lt_rif.specs.declared.end.End.TheVariants as end
use Rattle.lt_loop.specs.Machine.{Instant, Rules, most_steps, values, over}
use Rattle.lt_loop.specs.Plan.{Plan, opening_text, traced_step}
use Rattle.lt_loop.specs.Play.{Piece, controller_reply, destination_of, ends, play_of, step_count}
use Rattle.lt_loop.specs.Scene.{Scene, declared_as, first_inputs, fit, input_slots, passed_slot}
use Rattle.lt_loop.specs.Stands.{is_served}
use Rattle.lt_loop.specs.declared.event.Destination.{Destination}
use Rattle.lt_loop.specs.declared.event.Destination.TheVariants as destination
use Rattle.lt_loop.specs.declared.setup.Talk.{Talk}
use Rattle.lt_loop.specs.declared.setup.Talk.TheVariants as talk

-- ---- the trace of a run

-- those bytes of a piece that go to the trace
abbrev pub traced_to : Destination → List ℕ → List ℕ
traced_to destination.Trace bytes = bytes
traced_to _ bytes = []

-- the text of the trace that some pieces write
abbrev pub trace_text : List Piece → List ℕ
trace_text [] = []
trace_text (p ∷ ps) = traced_to (destination_of p.kind) p.bytes ++ trace_text ps

-- Whether a run that ended so can be played again: neither side failed, nor was a reply of it refused or missed. Of an
-- instant whose reply was, the trace shows nothing.
abbrev pub is_replayable : End → Bool
is_replayable (end.Malformed w f place) = false
is_replayable (end.Ended w taken) = false
is_replayable (end.Device w) = false
is_replayable _ = true

-- the same run, with a trace in place of its controller
abbrev pub replaying : Plan → Plan
replaying plan = record plan { controller = talk.Replay }

-- a text as a whole stream
abbrev pub whole_text : List ℕ → Stream
whole_text text = record { place = 0; bytes = text; is_closed = true }

-- ---- what can be read back

-- the most variables of a scenario whose steps are short enough: two of them have room in a reply
abbrev pub most_variables : ℕ
most_variables = 1_000

-- a scenario whose trace can be read back
pub record IsTraceable (s : Scene) : Type 0 where
  pub decimals : s.decimals ≤ most_decimals
  pub few : length s.outputs + length s.inputs + length s.locals ≤ most_variables
  -- no name has a line feed
  pub outputs : AreOnLines (map declared_as s.outputs)
  pub inputs : AreOnLines (map declared_as s.inputs)
  pub locals : AreOnLines (map declared_as s.locals)

-- An instant shows what can be read back: a value for each output, of its kind and no larger than numbers are, and locals
-- of 64 bits.
pub record Shows (s : Scene) (outputs : List Value) (locals : List (Option Value)) : Type 0 where
  pub holds : HoldAll (map passed_slot s.outputs) outputs
  pub sized : AreLocalsSized locals

-- Each instant shows what can be read back, for so many instants, with these inputs before the first one and whatever
-- inputs of the scenario's after it.
abbrev pub ShowsFor : {State : Type 0} → Rules State → Scene → ℕ → State → List Value → Type 0
ShowsFor rules s zero m y = Unit {0}
ShowsFor {State} rules s (suc left) m y =
    (next : State) → rules.instant m y ≡ values next →
    Shows s (rules.outputs next) (rules.locals next) × ((z : List Value) → fit (input_slots s) z ≡ true → ShowsFor rules s left next z)

-- ---- the first step

-- the values of a reply, none where it isn't whole
abbrev pub values_of : Reply → List Value
values_of (whole y left) = y
values_of _ = []

-- the inputs with which a controller answers, where there is one
abbrev pub answered : Talk → Plan → Stream → List Value
answered talk.Nobody plan c = []
answered _ plan c = values_of (controller_reply plan c)

-- the text of step k, where its instant gives values
abbrev pub step_of : {State : Type 0} → Rules State → Plan → ℕ → Instant State → List Value → List ℕ
step_of rules plan k (values m) y = traced_step plan k (rules.outputs m) y (rules.locals m)
step_of rules plan k (over e) y = []

-- the text of the step at hand, where one may begin
abbrev pub step_at_hand : {State : Type 0} → Rules State → Plan → ℕ → ℕ → State → List Value → Stream → List ℕ
step_at_hand rules plan zero k m y c = []
step_at_hand rules plan (suc left) k m y c = step_of rules plan k (rules.instant m y) (answered plan.controller plan c)

-- the text of the first step
abbrev pub first_step : {State : Type 0} → Rules State → Plan → ℕ → State → Stream → List ℕ
first_step rules plan limit m c = step_at_hand rules plan limit 1 m (first_inputs plan.scene) c

-- ---- the law

-- Let a run have ended in a way that can be played again, and let its header and its first step have room in one reply.
-- Then the run whose controller is the trace of that run, and whose oracle has the same stream, has the same trace and as many
-- steps, and ends in the same way.
abbrev pub ReplaysAreTheSame : Type 0 → Type 0
ReplaysAreTheSame State =
    (rules : Rules State) (plan : Plan) (limit : ℕ) (m : State) (c o : Stream) (e : End) →
    IsTraceable plan.scene → plan.seed < 2 ^ 64 → limit ≤ most_steps → is_served plan.controller plan.scene ≡ true →
    ShowsFor rules plan.scene limit m (first_inputs plan.scene) →
    (let run = play_of rules plan limit m c o in
    run.stop ≡ ends e → is_replayable e ≡ true → length (opening_text plan) + length (first_step rules plan limit m c) ≤ longest →
    (let again = play_of rules (replaying plan) limit m (whole_text (trace_text run.pieces)) o in
    (trace_text again.pieces ≡ trace_text run.pieces) × (again.stop ≡ ends e) × (step_count again.pieces ≡ step_count run.pieces)))
