-- Traces that are written are read back.
use Rattle.std.specs.Prelude.{◌≡◌, ◌≤◌, ◌<◌, ℕ, ◌+◌, ◌^◌, Bool, true, false, ◌==◌, List, [], ◌∷◌, ◌++◌, length, map, unsigned_abs, unwrap_or, Ok}
use Rattle.std.specs.List.{flat_map, list_any}
use Rattle.std.specs.declared.option.Option.{Option}
use Rattle.lt_draw.specs.declared.directions.Draw.{Draw}
use Rattle.lt_num.specs.Bounds.{most_decimals, most_raw}
use Rattle.lt_num.specs.Value.{raw_of, value_of}
use Rattle.lt_num.specs.declared.kind.Kind.{Kind}
use Rattle.lt_num.specs.declared.value.Value.{Value}
use Rattle.lt_rif.specs.Cutting.{Finding, reply, replies_of}
use Rattle.lt_rif.specs.Enough.{AreLocalsSized}
use Rattle.lt_rif.specs.Judgement.{is_within, judged}
use Rattle.lt_rif.specs.Reply.{whole, longest, reply_of}
use Rattle.lt_rif.specs.Spelling.{Filler, AreFillers, gap_text, kept}
use Rattle.lt_rif.specs.Trace.{DeclaredVariable, header_text, step_text, value_text}
use Rattle.lt_rif.specs.Word.{is_blank}
use Rattle.lt_rif.specs.declared.slot.Slot.{Slot}

-- A slot may hold a value: it is of the slot's kind, no larger than a raw number may be, and in the slot's range.
pub record Holds (slot : Slot) (v : Value) : Type 0 where
  pub kind : value_of slot.kind (raw_of v) ≡ v
  pub bound : unsigned_abs (raw_of v) ≤ most_raw
  pub range : is_within slot.range (raw_of v) ≡ true

-- The word of a value is judged to be this value, and has no blank and no other byte.
abbrev pub ValueReadsBack : Type 0
ValueReadsBack =
    (decimals : ℕ) (slot : Slot) (v : Value) → decimals ≤ most_decimals → Holds slot v →
    (judged decimals slot (value_text decimals slot.kind v) ≡ Ok v) × (list_any is_blank (value_text decimals slot.kind v) ≡ false)

-- slots may hold values, in turn
abbrev pub HoldAll : List Slot → List Value → Type 0
HoldAll [] [] = Unit {0}
HoldAll (slot ∷ slots) (v ∷ values) = Holds slot v × HoldAll slots values
HoldAll slots values = ⊥

-- the kinds of slots
abbrev pub kinds_of : List Slot → List Kind
kinds_of slots = map (λ slot. slot.kind) slots

-- what is written of a step
pub record WrittenStep : Type 0 where
  pub number : ℕ
  pub outputs : List Value
  pub inputs : List Value
  pub locals : Option (List (Option Value))

-- slots for its outputs and for its inputs may hold its values, and its numbers are those of the code
pub record IsStep (outputs_slots inputs_slots : List Slot) (step : WrittenStep) : Type 0 where
  pub number : step.number < 2 ^ 64
  pub outputs : HoldAll outputs_slots step.outputs
  pub inputs : HoldAll inputs_slots step.inputs
  pub locals : AreLocalsSized (unwrap_or step.locals [])

-- its text, where its locals have these kinds
abbrev pub text_of_step : ℕ → List Slot → List Slot → List Kind → WrittenStep → List ℕ
text_of_step decimals outputs_slots inputs_slots kinds step = step_text decimals step.number (kinds_of outputs_slots ++ kinds_of inputs_slots ++ kinds) step.outputs step.inputs step.locals

-- its values that are kept
abbrev pub values_of_step : List Slot → List Slot → WrittenStep → List Value
values_of_step outputs_slots inputs_slots step = kept outputs_slots step.outputs ++ kept inputs_slots step.inputs

-- A step that is written, whatever may stand between values before it, is read as its values: those of the outputs, and
-- then those of the inputs. What is left of its text may stand between values too.
abbrev pub StepReadsBack : Type 0
StepReadsBack =
    (decimals place : ℕ) (outputs_slots inputs_slots : List Slot) (step : WrittenStep) (kinds : List Kind) (before : List Filler) (rest : List ℕ) (closed : Bool) →
    decimals ≤ most_decimals → 0 < length (outputs_slots ++ inputs_slots) → IsStep outputs_slots inputs_slots step → AreFillers before →
    (let text = text_of_step decimals outputs_slots inputs_slots kinds step in
    length (gap_text before ++ text) ≤ longest →
    (count : ℕ) × (after : List Filler) × AreFillers after × (length (gap_text after) ≤ length text)
    × (reply_of decimals (outputs_slots ++ inputs_slots) (record { place = place; bytes = (gap_text before ++ text) ++ rest; is_closed = closed })
    ≡ whole (values_of_step outputs_slots inputs_slots step) (record { place = place + count; bytes = gap_text after ++ rest; is_closed = closed })))

-- ---- whole traces

-- no name has a line feed
abbrev pub AreOnLines : List DeclaredVariable → Type 0
AreOnLines [] = Unit {0}
AreOnLines (d ∷ declarations) = (list_any (λ b. b == 10) d.name ≡ false) × AreOnLines declarations

-- short enough that two such texts have room in a reply
abbrev pub half_longest : ℕ
half_longest = 32_768

-- steps that can be written, of texts that are short
abbrev pub AreSteps : ℕ → List Slot → List Slot → List Kind → List WrittenStep → Type 0
AreSteps decimals outputs_slots inputs_slots kinds [] = Unit {0}
AreSteps decimals outputs_slots inputs_slots kinds (step ∷ steps) =
    IsStep outputs_slots inputs_slots step × (length (text_of_step decimals outputs_slots inputs_slots kinds step) ≤ half_longest) × AreSteps decimals outputs_slots inputs_slots kinds steps

-- replies were found with these values, in turn
abbrev pub HaveValues : List Finding → List (List Value) → Type 0
HaveValues [] [] = Unit {0}
HaveValues (reply values place ∷ findings) (v ∷ vs) = (values ≡ v) × HaveValues findings vs
HaveValues findings vs = ⊥

-- A trace that is written is read back, step after step, as the values of its steps.
abbrev pub TraceReadsBack : Type 0
TraceReadsBack =
    (decimals seed place : ℕ) (draw : Draw) (outputs_slots inputs_slots : List Slot) (outputs inputs : List DeclaredVariable) (locals : Option (List DeclaredVariable)) (kinds : List Kind) (steps : List WrittenStep) (rest : List ℕ) (closed : Bool) →
    decimals ≤ most_decimals → seed < 2 ^ 64 → 0 < length (outputs_slots ++ inputs_slots) → AreOnLines outputs → AreOnLines inputs → AreOnLines (unwrap_or locals []) →
    AreSteps decimals outputs_slots inputs_slots kinds steps →
    (let header = header_text seed draw outputs inputs locals in
    length header ≤ half_longest →
    HaveValues
    (replies_of (length steps) decimals (outputs_slots ++ inputs_slots) (record { place = place; bytes = header ++ (flat_map (text_of_step decimals outputs_slots inputs_slots kinds) steps ++ rest); is_closed = closed }))
    (map (values_of_step outputs_slots inputs_slots) steps))
