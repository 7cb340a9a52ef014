-- The answer of an operation: the raw number, if it is within bounds.
use Rattle.std.specs.Prelude.{◌≡◌, ◌≢◌, ℕ, ℤ, pos, ◌*ℤ◌, unsigned_abs, int_div, int_rem, nat_le, if◌then◌else◌, Ok, Err}
use Rattle.std.specs.Ordering.{int_eq}
use Rattle.std.specs.declared.result.Result.{Result}
use Rattle.lt_num.specs.declared.fault.Arith.{Arith}
use Rattle.lt_num.specs.declared.fault.Arith.TheVariants.{Overflow, DivisionByZero}
use Rattle.lt_num.specs.declared.fixed.Fixed.{Fixed}
use Rattle.lt_num.specs.Bounds.{most_raw}
use Rattle.lt_num.specs.Rounding.{IsNearest}

-- this raw number, or Overflow where it is past the bound
abbrev pub bounded : ℤ → Result Fixed Arith
bounded raw = if nat_le (unsigned_abs raw) most_raw then Ok (record { raw = raw }) else Err Overflow

-- the product of two ints
abbrev pub whole_product : ℤ → ℤ → Result Fixed Arith
whole_product a b = bounded (a *ℤ b)

-- the quotient of two ints, without its fraction
abbrev pub whole_quotient : ℤ → ℤ → Result Fixed Arith
whole_quotient a b = if int_eq b (pos 0) then Err DivisionByZero else bounded (int_div a b)

-- what it leaves, with the sign of the first
abbrev pub whole_remainder : ℤ → ℤ → Result Fixed Arith
whole_remainder a b = if int_eq b (pos 0) then Err DivisionByZero else bounded (int_rem a b)

-- the answer for the rational n / d: the nearest raw number, or Overflow where that one is past the bound
pub record IsRounded (n d : ℤ) (answer : Result Fixed Arith) : Type 0 where
  pub raw : ℤ
  pub is_nearest : IsNearest n d raw
  pub is_bounded : answer ≡ bounded raw

-- Each rational has exactly one answer.
abbrev pub AnswerIsOne : Type 0
AnswerIsOne = (n d : ℤ) → d ≢ pos 0 → (answer : Result Fixed Arith) × IsRounded n d answer × ((other : Result Fixed Arith) → IsRounded n d other → other ≡ answer)
