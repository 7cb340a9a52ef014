-- The words of a step's line, as the code reads them.
use Rattle.std.specs.Prelude.{◌≡◌, ◌≤◌, ℕ, suc, ◌-◌, Bool, ◌==◌, List, [], ◌∷◌, ◌++◌, codes, drop, take, if◌then◌else◌, None, Some, Ok, Err}
use Rattle.std.specs.Str.{bytes_eq}
use Rattle.std.specs.declared.option.Option.{Option}
use Rattle.std.specs.declared.result.Result.{Result}
use Rattle.lt_num.specs.Bounds.{most_decimals}
use Rattle.lt_num.specs.declared.value.Value.{Value}
use Rattle.lt_rif.specs.Judgement.{judged}
use Rattle.lt_rif.specs.Trace.{value_text}
use Rattle.lt_rif.specs.declared.fault.ValueFault.{ValueFault}
use Rattle.lt_rif.specs.declared.slot.Slot.{Slot}
use Rattle.lt_trace.specs.Shape.{IsShown, Shape, shown_text}
use Rattle.lt_trace.specs.Told.{Shown}

abbrev pub is_space : ℕ → Bool
is_space byte = byte == 32

-- ---- words

-- a byte before a word
abbrev pub before_word : ℕ → Option (List ℕ × List ℕ) → Option (List ℕ × List ℕ)
before_word b None = None
before_word b (Some x) = Some (b ∷ x.0, x.1)

-- the word before the first space, and what stands behind that
abbrev pub cut : List ℕ → Option (List ℕ × List ℕ)
cut [] = None
cut (b ∷ bs) = if is_space b then Some ([], bs) else before_word b (cut bs)

-- what is left of a line from a place on, as if a space stood behind it
abbrev pub left : List ℕ → ℕ → List ℕ
left line at = drop at (line ++ 32 ∷ [])

-- the word from a place on that ends at another one, and what is left behind it
abbrev pub word_at : List ℕ → ℕ → Option ℕ → Option (List ℕ × List ℕ)
word_at line at None = None
word_at line at (Some end) = Some (take (end - at) (drop at line), left line (suc end))

-- what is left from a place on that was found
abbrev pub found : List ℕ → Option ℕ → Option (List ℕ)
found line None = None
found line (Some at) = Some (left line at)

-- the same with what was read before it
abbrev pub found_with : {V : Type 0} → V → Option (List ℕ) → Option (V × List ℕ)
found_with vs None = None
found_with vs (Some rest) = Some (vs, rest)

-- ---- what is read next

abbrev pub on_word : {R : Type 0} → Option (List ℕ × List ℕ) → (List ℕ → List ℕ → Option R) → Option R
on_word None go = None
on_word (Some x) go = go x.0 x.1

abbrev pub on_some : {V R : Type 0} → Option V → (V → Option R) → Option R
on_some None go = None
on_some (Some v) go = go v

-- a mark
abbrev pub marked : List ℕ → List ℕ → Option (List ℕ)
marked mark text = on_word (cut text) (λ word rest. if bytes_eq word mark then Some rest else None)

-- the value of which a word is written
abbrev pub checked : ℕ → Slot → List ℕ → Result Value ValueFault → Option Value
checked decimals slot word (Ok v) = if bytes_eq word (value_text decimals slot.kind v) then Some v else None
checked decimals slot word (Err f) = None

abbrev pub exact : ℕ → Slot → List ℕ → Option Value
exact decimals slot word = checked decimals slot word (judged decimals slot word)

abbrev pub exact_local : ℕ → Slot → List ℕ → Option (Option Value)
exact_local decimals slot word = if bytes_eq word (codes "?") then Some None else on_some (exact decimals slot word) (λ v. Some (Some v))

-- words of values, of these slots in turn
abbrev pub read_values : ℕ → List Slot → List ℕ → List Value → Option (List Value × List ℕ)
read_values decimals [] text values = Some (values, text)
read_values decimals (slot ∷ slots) text values = on_word (cut text) (λ word rest. on_some (exact decimals slot word) (λ v. read_values decimals slots rest (values ++ v ∷ [])))

abbrev pub read_locals : ℕ → List Slot → List ℕ → List (Option Value) → Option (List (Option Value) × List ℕ)
read_locals decimals [] text values = Some (values, text)
read_locals decimals (slot ∷ slots) text values = on_word (cut text) (λ word rest. on_some (exact_local decimals slot word) (λ v. read_locals decimals slots rest (values ++ v ∷ [])))

-- the end of the line
abbrev pub ended : {R : Type 0} → List ℕ → R → Option R
ended [] r = Some r
ended (b ∷ bs) r = None

-- the line of a step is read: a step is found exactly where the line is written of one
abbrev pub IsLineRead : Shape → List ℕ → Option Shown → Type 0
IsLineRead shape line None = (step : Shown) → IsShown shape step → line ≡ shown_text shape step → ⊥
IsLineRead shape line (Some step) = IsShown shape step × (line ≡ shown_text shape step)

-- a whole line
abbrev pub read_line : Shape → List ℕ → Option Shown
read_line shape line =
    on_some (read_values shape.decimals shape.outputs (line ++ 32 ∷ []) []) (λ x.
    on_some (marked (codes "#outs") x.1) (λ behind_outputs.
    on_some (read_values shape.decimals shape.inputs behind_outputs []) (λ y.
    on_some (marked (codes "#locs") y.1) (λ behind_inputs.
    on_some (read_locals shape.decimals shape.locals behind_inputs []) (λ z.
    ended z.1 (record { outputs = x.0; inputs = y.0; locals = z.0 }))))))

-- what the code finds in a line is the step of which it is written, if it is written of one
abbrev pub StepLineIsRead : Type 0
StepLineIsRead = (shape : Shape) (line : List ℕ) → shape.decimals ≤ most_decimals → IsLineRead shape line (read_line shape line)
