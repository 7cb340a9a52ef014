-- What the merging of two lists of terms does, step by step.
use Rattle.std.specs.Prelude.{◌≡◌, ◌≢◌, [], ℕ, ◌+◌, ◌<◌, ◌≤◌, Bool, true, IsTrue, List, length, ℤ, pos, unsigned_abs, Option, None, Some}
use Rattle.lt_num.specs.Bounds.{most_decimals}
use Rattle.lt_linear.specs.Form.{Term, all_pass, before, is_raw, merged, raw_compared, raw_difference, raw_divided, raw_scaled, raw_sum}
use Rattle.lt_linear.specs.declared.merging.Front.{Front}
use Rattle.lt_linear.specs.declared.merging.Operation.{Operation}
use Rattle.lt_linear.specs.declared.merging.Operation.TheVariants.{Compared, Difference, Divided, Scaled, Sum}

-- what an operation gives on two raw numbers
abbrev pub combined : Operation → ℤ → ℤ → Option ℤ
combined Sum = raw_sum
combined Difference = raw_difference
combined (Scaled by decimals) = raw_scaled by.raw decimals
combined (Divided by decimals) = raw_divided by.raw decimals
combined (Compared factor) = raw_compared factor

-- an operation has so many decimals, its divisor isn't 0, and its factor isn't large
abbrev pub IsOperation : Operation → Type 0
IsOperation Sum = Unit {0}
IsOperation Difference = Unit {0}
IsOperation (Scaled by decimals) = decimals ≤ most_decimals
IsOperation (Divided by decimals) = (decimals ≤ most_decimals) × (by.raw ≢ pos 0)
IsOperation (Compared factor) = unsigned_abs factor ≤ 1_000_000

-- whether a raw number is small enough for an operation
abbrev pub is_usable : Operation → ℤ → Bool
is_usable (Compared factor) raw = is_raw raw
is_usable other raw = true

-- whether all coefficients of terms are
abbrev pub are_usable : Operation → List Term → Bool
are_usable operation terms = all_pass (is_usable operation) terms

-- The front of two lists of terms: their first variable, its coefficients in both, and what is after it in both.
pub record IsFront (left right : List Term) (variable : ℕ) (first second : ℤ) (behind_left behind_right : List Term) : Type 0 where
  pub merges : (f : ℤ → ℤ → Option ℤ) → merged f left right ≡ before variable (f first second) (merged f behind_left behind_right)
  pub fewer : length behind_left + length behind_right < length left + length right
  pub pass : (test : ℤ → Bool) → IsTrue (test (pos 0)) → IsTrue (all_pass test left) → IsTrue (all_pass test right)
      → IsTrue (test first) × IsTrue (test second) × IsTrue (all_pass test behind_left) × IsTrue (all_pass test behind_right)

-- the front that two lists have, or that they are empty
abbrev pub FrontTells : List Term → List Term → Option Front → Type 0
FrontTells left right None = (f : ℤ → ℤ → Option ℤ) → merged f left right ≡ Some []
FrontTells left right (Some front) = IsFront left right front.variable front.first front.second front.left.now front.right.now

-- what is written, or that a coefficient is past its bound
abbrev pub MergeTells : Option (Unit {0}) → List Term → Option (List Term) → Type 0
MergeTells None written due = due ≡ None
MergeTells (Some t) written due = due ≡ Some written
