-- The raw numbers that words write. The byte 46 is the point, 69 and 101 are E and e.
use Rattle.std.specs.Prelude.{ℕ, ◌+◌, ◌*◌, ◌^◌, Bool, ◌||◌, ◌&&◌, ◌==◌, nat_le, List, length, position, is_none, codes, ℤ, pos, if◌then◌else◌, None, Some}
use Rattle.std.specs.List.{before_first, after_first}
use Rattle.std.specs.Str.{bytes_eq, all_ascii_digits}
use Rattle.std.specs.Str.Parse.{starts_with_minus, without_leading_sign, digits_value}
use Rattle.std.specs.declared.option.Option.{Option}
use Rattle.lt_num.specs.Rounding.{with_sign, nearest}
use Rattle.lt_num.specs.declared.kind.Kind.{Kind}
use Rattle.lt_num.specs.declared.kind.Kind.TheVariants as kind

-- the words of true
abbrev pub is_true_word : List ℕ → Bool
is_true_word word = bytes_eq word (codes "t") || bytes_eq word (codes "T") || bytes_eq word (codes "true") || bytes_eq word (codes "1")

-- the words of false
abbrev pub is_false_word : List ℕ → Bool
is_false_word word = bytes_eq word (codes "f") || bytes_eq word (codes "F") || bytes_eq word (codes "false") || bytes_eq word (codes "0")

-- the raw number of the truth that a word writes, if it writes one
abbrev pub truth_written : List ℕ → Option ℤ
truth_written word = if is_true_word word then Some (pos 1) else (if is_false_word word then Some (pos 0) else None)

-- digits alone, from so many to so many
abbrev pub is_digits : ℕ → ℕ → List ℕ → Bool
is_digits least most text = all_ascii_digits text && nat_le least (length text) && nat_le (length text) most

-- the number that digits write
abbrev pub number_of : List ℕ → ℕ
number_of digits = digits_value 10 digits

-- the most digits of an int, and of a real before its point and after it
abbrev pub most_digits_in_a_row : ℕ
most_digits_in_a_row = 18

-- the most digits of an exponent
abbrev pub most_exponent_digits : ℕ
most_exponent_digits = 3

-- the int that a word writes, if it writes one: a sign or none, and digits
abbrev pub int_written : List ℕ → Option ℤ
int_written word =
    let digits = without_leading_sign word in
    if is_digits 1 most_digits_in_a_row digits then Some (with_sign (starts_with_minus word) (number_of digits)) else None

-- whether a byte is a point
abbrev pub is_point : ℕ → Bool
is_point byte = byte == 46

-- whether a byte stands before an exponent
abbrev pub is_mark : ℕ → Bool
is_mark byte = byte == 101 || byte == 69

-- The parts of a real after its sign: digits before the point ..
abbrev pub whole_part : List ℕ → List ℕ
whole_part number = before_first is_point (before_first is_mark number)

-- .. digits after it ..
abbrev pub decimal_part : List ℕ → List ℕ
decimal_part number = after_first is_point (before_first is_mark number)

-- .. and an exponent.
abbrev pub exponent_part : List ℕ → List ℕ
exponent_part number = after_first is_mark number

-- nothing, or a mark, a sign or none, and digits
abbrev pub is_exponent : List ℕ → Bool
is_exponent number = is_none (position is_mark number) || is_digits 1 most_exponent_digits (without_leading_sign (exponent_part number))

-- a real after its sign: at least one digit before the point or after it
abbrev pub is_real : List ℕ → Bool
is_real number =
    is_digits 0 most_digits_in_a_row (whole_part number)
    && is_digits 0 most_digits_in_a_row (decimal_part number)
    && nat_le 1 (length (whole_part number) + length (decimal_part number))
    && is_exponent number

-- the size of an exponent, 0 where there is none
abbrev pub exponent_size : List ℕ → ℕ
exponent_size number = number_of (without_leading_sign (exponent_part number))

-- by how many places an exponent moves the point to the right, and by how many to the left
abbrev pub places_right : List ℕ → ℕ
places_right number = if starts_with_minus (exponent_part number) then 0 else exponent_size number

abbrev pub places_left : List ℕ → ℕ
places_left number = if starts_with_minus (exponent_part number) then exponent_size number else 0

-- A real is the number that its digits write without the point, ten times as much for each place that the point moves to
-- the right ..
abbrev pub real_numerator : List ℕ → ℕ
real_numerator number = (number_of (whole_part number) * 10 ^ length (decimal_part number) + number_of (decimal_part number)) * 10 ^ places_right number

-- .. over ten for each digit after the point and each place to the left.
abbrev pub real_denominator : List ℕ → ℕ
real_denominator number = 10 ^ (length (decimal_part number) + places_left number)

-- the raw number with so many decimals that is nearest to the real that a word writes, if it writes one
abbrev pub real_written : ℕ → List ℕ → Option ℤ
real_written decimals word =
    let number = without_leading_sign word in
    if is_real number then Some (nearest (with_sign (starts_with_minus word) (real_numerator number * 10 ^ decimals)) (pos (real_denominator number))) else None

-- the raw number of the value of a kind that a word writes, if it writes one; reals have so many decimals
unfoldable pub raw_written : ℕ → Kind → List ℕ → Option ℤ
raw_written decimals kind.Bool word = truth_written word
raw_written decimals kind.Int word = int_written word
raw_written decimals kind.Real word = real_written decimals word
