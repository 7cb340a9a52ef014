-- That the room of `room_for` is enough.
use Rattle.std.specs.Prelude.{ℕ, ◌+◌, ◌^◌, ◌<◌, ◌≤◌, List, [], ◌∷◌, length, sum_by, unsigned_abs, unwrap_or, None, Some}
use Rattle.std.specs.declared.option.Option.{Option}
use Rattle.lt_draw.specs.declared.directions.Draw.{Draw}
use Rattle.lt_num.specs.Bounds.{most_decimals}
use Rattle.lt_num.specs.declared.kind.Kind.{Kind}
use Rattle.lt_num.specs.declared.value.Value.{Value}
use Rattle.lt_num.specs.declared.value.Value.TheVariants as value
use Rattle.lt_rif.specs.Room.{room_for}
use Rattle.lt_rif.specs.Trace.{DeclaredVariable, header_text, line_text, step_text, end_text}
use Rattle.lt_rif.specs.declared.end.End.{End}
use Rattle.lt_rif.specs.declared.end.End.TheVariants as end

-- a value of the code, whose raw number has 64 bits
abbrev pub IsSized : Value → Type 0
IsSized (value.Bool b) = Unit {0}
IsSized (value.Num raw) = unsigned_abs raw ≤ 2 ^ 63

abbrev pub AreSized : List Value → Type 0
AreSized [] = Unit {0}
AreSized (v ∷ values) = IsSized v × AreSized values

abbrev pub AreLocalsSized : List (Option Value) → Type 0
AreLocalsSized [] = Unit {0}
AreLocalsSized (None ∷ locals) = AreLocalsSized locals
AreLocalsSized (Some v ∷ locals) = IsSized v × AreLocalsSized locals

-- an end of the code, whose need has 128 bits
abbrev pub IsEndSized : End → Type 0
IsEndSized (end.Budget need) = need < 2 ^ 128
IsEndSized _ = Unit {0}

-- how many bytes the names of variables have
abbrev pub names_length : List DeclaredVariable → ℕ
names_length variables = sum_by (λ v. length v.name) variables

-- a header fits
abbrev pub HeaderFits : Type 0
HeaderFits =
    (seed : ℕ) (draw : Draw) (outputs inputs : List DeclaredVariable) (locals : Option (List DeclaredVariable)) → seed < 2 ^ 64 →
    length (header_text seed draw outputs inputs locals)
    ≤ room_for (length outputs + length inputs + length (unwrap_or locals [])) (names_length outputs + names_length inputs + names_length (unwrap_or locals []))

-- a line fits
abbrev pub LineFits : Type 0
LineFits = (decimals : ℕ) (kinds : List Kind) (values : List Value) → decimals ≤ most_decimals → AreSized values → length (line_text decimals kinds values) ≤ room_for (length values) 0

-- a step fits of which so many values have kinds, with an end line after it
abbrev pub StepFits : Type 0
StepFits =
    (decimals step number : ℕ) (kinds : List Kind) (outputs inputs : List Value) (locals : Option (List (Option Value))) (e : End) (names : List (List ℕ)) →
    decimals ≤ most_decimals → step < 2 ^ 64 → number < 2 ^ 64 → AreSized outputs → AreSized inputs → AreLocalsSized (unwrap_or locals []) → IsEndSized e →
    length (step_text decimals step kinds outputs inputs locals) + length (end_text e names number)
    ≤ room_for (length kinds) (sum_by (λ name. length name) names)

abbrev pub RoomIsEnough : Type 0
RoomIsEnough = HeaderFits × LineFits × StepFits
