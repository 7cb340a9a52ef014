-- The text of a trace, and the lines that go to a controller and to an oracle.
use Rattle.std.specs.Prelude.{ℕ, ◌+◌, ◌<◌, Bool, true, false, List, [], ◌∷◌, ◌++◌, length, drop, codes, decimal, slice_index_or, None, Some}
use Rattle.std.specs.List.{flat_map, join_by}
use Rattle.std.specs.String.{string_bytes}
use Rattle.std.specs.declared.option.Option.{Option}
use Rattle.lt_draw.specs.declared.directions.Draw.{Draw}
use Rattle.lt_draw.specs.declared.directions.Draw.TheVariants.{Directed, Inside, Up}
use Rattle.lt_num.specs.Text.{text_of}
use Rattle.lt_num.specs.declared.fault.Arith.{Arith}
use Rattle.lt_num.specs.declared.fault.Arith.TheVariants as arith_fault
use Rattle.lt_num.specs.declared.kind.Kind.{Kind}
use Rattle.lt_num.specs.declared.kind.Kind.TheVariants as kind
use Rattle.lt_num.specs.declared.value.Value.{Value}
use Rattle.lt_num.specs.declared.value.Value.TheVariants as value
use Rattle.lt_rif.specs.declared.declared.Declared.{Declared}
use Rattle.lt_rif.specs.declared.end.End.{End}
use Rattle.lt_rif.specs.declared.end.End.TheVariants as end
use Rattle.lt_rif.specs.declared.end.Who.{Who}
use Rattle.lt_rif.specs.declared.end.Who.TheVariants as who
use Rattle.lt_rif.specs.declared.fault.ValueFault.{ValueFault}
use Rattle.lt_rif.specs.declared.fault.ValueFault.TheVariants as fault

-- a text and a line feed
abbrev pub line : List ℕ → List ℕ
line text = text ++ 10 ∷ []

-- words with one space between two
abbrev pub spaced : List (List ℕ) → List ℕ
spaced words = join_by (λ word. word) (codes " ") words

-- ---- the header

-- a variable as a header declares it
pub record DeclaredVariable : Type 0 where
  pub name : List ℕ
  pub kind : Kind

abbrev pub declared_variable : Declared → DeclaredVariable
declared_variable d = record { name = string_bytes d.name; kind = d.kind }

-- the word of a kind
abbrev pub kind_text : Kind → List ℕ
kind_text kind.Bool = codes "bool"
kind_text kind.Int = codes "int"
kind_text kind.Real = codes "real"

-- a space, and "NAME":KIND
abbrev pub declared_text : DeclaredVariable → List ℕ
declared_text d = codes " \"" ++ d.name ++ codes "\":" ++ kind_text d.kind

-- the line of the rule of drawing, which stands where it is another than the first
abbrev pub draw_header : Draw → List ℕ
draw_header Up = []
draw_header Directed = line (codes "#draw 2")
draw_header Inside = line (codes "#draw 3")

-- the line of the locals, where they are written
abbrev pub locals_header : Option (List DeclaredVariable) → List ℕ
locals_header None = []
locals_header (Some locals) = line (codes "#locals" ++ flat_map declared_text locals)

-- The seed, and the rule of drawing. Then what the controller takes in, and what it gives out: the scenario's outputs and
-- inputs. Then its locals.
abbrev pub header_text : ℕ → Draw → List DeclaredVariable → List DeclaredVariable → Option (List DeclaredVariable) → List ℕ
header_text seed draw outputs inputs locals =
    line (codes "#seed " ++ decimal seed)
    ++ draw_header draw
    ++ line (codes "#inputs" ++ flat_map declared_text outputs)
    ++ line (codes "#outputs" ++ flat_map declared_text inputs)
    ++ locals_header locals

-- ---- values

-- a truth
abbrev pub bool_text : Bool → List ℕ
bool_text true = codes "t"
bool_text false = codes "f"

-- the decimals of a number of a kind, where a real has so many
abbrev pub decimals_of : ℕ → Kind → ℕ
decimals_of decimals kind.Real = decimals
decimals_of decimals kind.Int = 0
decimals_of decimals kind.Bool = 0

-- a value of a kind, where a real has so many decimals
abbrev pub value_text : ℕ → Kind → Value → List ℕ
value_text decimals k (value.Bool b) = bool_text b
value_text decimals k (value.Num raw) = text_of (decimals_of decimals k) raw

-- a local of a kind; it may be out of scope
abbrev pub local_text : ℕ → Kind → Option Value → List ℕ
local_text decimals k None = codes "?"
local_text decimals k (Some v) = value_text decimals k v

-- the words of values, of these kinds in turn
abbrev pub value_words : ℕ → List Kind → List Value → List (List ℕ)
value_words decimals [] values = []
value_words decimals (k ∷ kinds) [] = []
value_words decimals (k ∷ kinds) (v ∷ values) = value_text decimals k v ∷ value_words decimals kinds values

-- the words of locals
abbrev pub local_words : ℕ → List Kind → List (Option Value) → List (List ℕ)
local_words decimals [] locals = []
local_words decimals (k ∷ kinds) [] = []
local_words decimals (k ∷ kinds) (v ∷ locals) = local_text decimals k v ∷ local_words decimals kinds locals

-- a line of values, as it goes to a controller or to an oracle
abbrev pub line_text : ℕ → List Kind → List Value → List ℕ
line_text decimals kinds values = line (spaced (value_words decimals kinds values))

-- ---- steps

-- the words of the locals after their mark, where they are written
abbrev pub locals_part : ℕ → List Kind → Option (List (Option Value)) → List (List ℕ)
locals_part decimals kinds None = []
locals_part decimals kinds (Some locals) = codes "#locs" ∷ local_words decimals kinds locals

-- the words of a step: outputs, inputs and locals, of these kinds in turn
abbrev pub step_words : ℕ → List Kind → List Value → List Value → Option (List (Option Value)) → List (List ℕ)
step_words decimals kinds outputs inputs locals =
    value_words decimals kinds outputs
    ++ codes "#outs" ∷ (value_words decimals (drop (length outputs) kinds) inputs ++ locals_part decimals (drop (length outputs + length inputs) kinds) locals)

-- the number of a step, and its values
abbrev pub step_text : ℕ → ℕ → List Kind → List Value → List Value → Option (List (Option Value)) → List ℕ
step_text decimals step kinds outputs inputs locals =
    line (codes "#step " ++ decimal step) ++ line (spaced (step_words decimals kinds outputs inputs locals))

-- ---- the end line

abbrev pub who_text : Who → List ℕ
who_text who.Controller = codes "controller"
who_text who.Oracle = codes "oracle"

abbrev pub fault_text : Arith → List ℕ
fault_text arith_fault.NoPrevious = codes "NoPrevious"
fault_text arith_fault.DivisionByZero = codes "DivisionByZero"
fault_text arith_fault.Overflow = codes "Overflow"
fault_text arith_fault.NegativeWeight = codes "NegativeWeight"

abbrev pub refusal_text : ValueFault → List ℕ
refusal_text fault.NotAValue = codes "NotAValue"
refusal_text fault.OutOfRange = codes "OutOfRange"
refusal_text fault.TooLong = codes "TooLong"

-- an exception that is raised has a name among so many
abbrev pub IsNamed : End → ℕ → Type 0
IsNamed (end.Raise exception) names = exception < names
IsNamed _ names = Unit {0}

-- the words of an end, where exceptions have these names
abbrev pub end_words : End → List (List ℕ) → List (List ℕ)
end_words end.Normal names = codes "normal" ∷ []
end_words end.Limit names = codes "limit" ∷ []
end_words end.Oracle names = codes "oracle" ∷ []
end_words end.Deadlock names = codes "deadlock" ∷ []
end_words (end.Raise exception) names = codes "raise" ∷ slice_index_or names exception [] ∷ []
end_words (end.Fault f) names = codes "fault" ∷ fault_text f ∷ []
end_words end.TooLarge names = codes "toolarge" ∷ []
end_words (end.Malformed w f place) names = codes "malformed" ∷ who_text w ∷ refusal_text f ∷ []
end_words (end.Ended w taken) names = codes "ended" ∷ who_text w ∷ []
end_words (end.Device w) names = codes "device" ∷ who_text w ∷ []
end_words (end.Budget need) names = codes "budget" ∷ decimal need ∷ []

-- the number of the step at hand, where so many steps were put out
abbrev pub step_at_hand : ℕ → ℕ
step_at_hand steps = steps + 1

-- the number of the end line of a run that ended so, where so many steps were put out: that of the last step where it is
-- over, at its limit or judged, and else that of the step at hand
abbrev pub end_number : End → ℕ → ℕ
end_number end.Normal steps = steps
end_number end.Limit steps = steps
end_number end.Oracle steps = steps
end_number _ steps = step_at_hand steps

-- the end line, with its number
abbrev pub end_text : End → List (List ℕ) → ℕ → List ℕ
end_text e names number = line (spaced (codes "#end" ∷ (end_words e names ++ decimal number ∷ [])))
