-- Digits, and whole numbers with a point that moves.
use Rattle.std.specs.Prelude.{◌≡◌, ℕ, ◌+◌, ◌*◌, ◌/◌, ◌^◌, ◌<◌, ◌≤◌, false, true, List, position, if◌then◌else◌, None, Some}
use Rattle.std.specs.List.{after_first}
use Rattle.std.specs.Option.{option_map}
use Rattle.std.specs.Str.Parse.{starts_with_minus, without_leading_sign}
use Rattle.std.specs.declared.option.Option.{Option}
use Rattle.lt_rif.specs.Number.{is_digits, is_mark, is_real, most_exponent_digits, number_of, real_numerator, real_denominator}
use Rattle.lt_rif.specs.declared.number.Scaled.{Scaled}

-- the number that a text writes that is so many digits
abbrev pub digits_written : ℕ → ℕ → List ℕ → Option ℕ
digits_written least most text = if is_digits least most text then Some (number_of text) else None

-- the whole number nearest to n / d, halves up
abbrev pub rounded_quotient : ℕ → ℕ → ℕ
rounded_quotient n d = (2 * n + d) / (2 * d)

-- What a real after its sign is: a whole number whose point moves.
abbrev pub IsScaled : List ℕ → Option Scaled → Type 0
IsScaled number None = is_real number ≡ false
IsScaled number (Some scaled) =
    (is_real number ≡ true)
    × (real_numerator number ≡ scaled.size * 10 ^ scaled.right)
    × (real_denominator number ≡ 10 ^ scaled.left)
    × (scaled.size < 10 ^ 36)
    × (scaled.right ≤ 999)
    × (scaled.left ≤ 1017)

-- what stands after the mark of an exponent, where there is one
abbrev pub after_mark : List ℕ → Option (List ℕ)
after_mark number = option_map (λ _. after_first is_mark number) (position is_mark number)

-- Where an exponent moves the point, to the right and to the left; none where it isn't one.
abbrev pub IsMove : Option (List ℕ) → Option (ℕ × ℕ) → Type 0
-- no exponent moves nothing
IsMove None moves = moves ≡ Some (0, 0)
IsMove (Some exponent) None = is_digits 1 most_exponent_digits (without_leading_sign exponent) ≡ false
IsMove (Some exponent) (Some moves) =
    (is_digits 1 most_exponent_digits (without_leading_sign exponent) ≡ true)
    × (moves.0 ≡ (if starts_with_minus exponent then 0 else number_of (without_leading_sign exponent)))
    × (moves.1 ≡ (if starts_with_minus exponent then number_of (without_leading_sign exponent) else 0))
    × (moves.0 ≤ 999)
    × (moves.1 ≤ 999)
