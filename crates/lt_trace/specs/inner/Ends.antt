-- Which end a line tells: ends are tried, one after another.
use Rattle.std.specs.Prelude.{◌≡◌, ◌⊎◌, ◌<◌, ℕ, List, [], ◌∷◌, ◌++◌, codes, decimal, length, None, Some}
use Rattle.std.specs.List.{flat_map}
use Rattle.std.specs.declared.option.Option.{Option}
use Rattle.lt_num.specs.declared.fault.Arith.TheVariants as arith
use Rattle.lt_rif.specs.Trace.{end_number, end_words, line}
use Rattle.lt_rif.specs.declared.end.End.{End}
use Rattle.lt_rif.specs.declared.end.End.TheVariants as end
use Rattle.lt_rif.specs.declared.end.Who.TheVariants as who
use Rattle.lt_rif.specs.declared.fault.ValueFault.TheVariants as fault
use Rattle.lt_trace.specs.End.{IsEnd, end_line}
use Rattle.lt_trace.specs.declared.recorded.RecordedEnd.{RecordedEnd}

-- words, with a space before each
abbrev pub after_space : List (List ℕ) → List ℕ
after_space words = flat_map (λ word. 32 ∷ word) words

-- the line of an end behind so many steps, without its line feed
abbrev pub end_word_text : End → List (List ℕ) → ℕ → List ℕ
end_word_text e names steps = codes "#end" ++ (after_space (end_words e names) ++ 32 ∷ decimal (end_number e steps))

abbrev pub IsIn : End → List End → Type 0
IsIn e [] = ⊥
IsIn e (x ∷ xs) = (e ≡ x) ⊎ IsIn e xs

-- the ends that have neither a name nor a need and may be told behind any number of steps, each once: a line shows no place
-- and no count
abbrev pub plain_ends : List End
plain_ends =
    end.Normal ∷ end.Limit ∷ end.Deadlock ∷ end.TooLarge
    ∷ end.Fault arith.NoPrevious ∷ end.Fault arith.DivisionByZero ∷ end.Fault arith.Overflow ∷ end.Fault arith.NegativeWeight
    ∷ end.Malformed who.Controller fault.NotAValue 0 ∷ end.Malformed who.Controller fault.OutOfRange 0 ∷ end.Malformed who.Controller fault.TooLong 0
    ∷ end.Malformed who.Oracle fault.NotAValue 0 ∷ end.Malformed who.Oracle fault.OutOfRange 0 ∷ end.Malformed who.Oracle fault.TooLong 0
    ∷ end.Ended who.Controller 0 ∷ end.Ended who.Oracle 0 ∷ end.Device who.Controller ∷ end.Device who.Oracle ∷ []

-- the first of these ends whose line this is
abbrev pub FindsEnd : List End → List (List ℕ) → ℕ → List ℕ → Option End → Type 0
FindsEnd es names steps text None = (e : End) → IsIn e es → line text ≡ end_line e names steps → ⊥
FindsEnd es names steps text (Some e) = IsIn e es × (line text ≡ end_line e names steps)

-- the first exception of which this is the line of a raise
abbrev pub FindsRaise : List (List ℕ) → ℕ → List ℕ → Option ℕ → Type 0
FindsRaise names steps text None =
    (z : ℕ) → z < length names → line text ≡ end_line (end.Raise z) names steps → ⊥
FindsRaise names steps text (Some z) =
    (z < length names) × (line text ≡ end_line (end.Raise z) names steps)
    × ((y : ℕ) → y < z → line text ≡ end_line (end.Raise y) names steps → ⊥)

-- the end that a line tells, if it tells one
abbrev pub FindsTold : List (List ℕ) → ℕ → List ℕ → Option RecordedEnd → Type 0
FindsTold names steps text None = (r : RecordedEnd) → IsEnd names steps text r → ⊥
FindsTold names steps text (Some r) = IsEnd names steps text r
