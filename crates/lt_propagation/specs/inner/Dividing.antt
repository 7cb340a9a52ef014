-- What is known of a sum by a divisor.
use Rattle.std.specs.Prelude.{◌≡◌, ◌+ℤ◌, ◌*ℤ◌, ℕ, List, ℤ, pos, slice_index_or, take}
use Rattle.lt_propagation.specs.declared.dividing.Remainder.{Remainder}

-- a number is so many times a divisor
pub record IsMultiple (divisor number : ℤ) : Type 0 where
  pub times : ℤ
  pub is : number ≡ divisor *ℤ times

-- a sum is a number, but for a multiple of a divisor
pub record IsSumBut (divisor sum number : ℤ) : Type 0 where
  pub times : ℤ
  pub is : sum ≡ number +ℤ (divisor *ℤ times)

-- the number that a remainder is at a point, by the value of the variable that it leaves open
abbrev pub value_of : Remainder → ℕ → ℕ → List ℤ → ℤ
value_of remainder but count values = (remainder.coefficient *ℤ slice_index_or (take count values) but (pos 0)) +ℤ remainder.rest
