-- Numbers of words.
use Rattle.std.proofs.Common.{◌≡◌, ℕ, ◌<◌, ◌^◌, List, drop, get_or, Bool, true, false, Ok, Err, ℤ, arith, rules, refl, w64, if◌then◌else◌, ◌≢◌, sym}
use Rattle.std.specs.Prelude.{OkIff}
use Rattle.std.specs.Char.{is_ascii_digit}
use Rattle.std.specs.List.{list_all}
use Rattle.std.specs.Str.Parse.{ParsesSigned, starts_with_minus, digits_value}
use Rattle.std.specs.declared.result.Result.{Result}
use Rattle.std.proofs.lemmas.Str.Parse.{not_in_digits, IsNumeralModel, numerals_by_value, parse_signed_minus, parse_signed_plain, digits_value_short}
use Rattle.std.proofs.lemmas.Bool.Decides.{Decides-eqb}
use Rattle.lt_num.specs.Literal.{without_minus}
use Rattle.lt_num.specs.Rounding.{with_sign}
use Rattle.lt_plants.specs.Words.{AreDigits}

own : IsNumeralModel (λ ds. list_all is_ascii_digit ds ≡ true) (digits_value 10)
own = numerals_by_value (λ ds. list_all is_ascii_digit ds ≡ true) (search rules)

ok_if : {T E : Type 0} (r : Result T E) (P : Type 0) (x : T) → OkIff r P x → P → r ≡ Ok x
ok_if (Ok y) P x h p = let same : y ≡ x = h.1 in cc
ok_if (Err e) P x h p = absurd (h p)

small : (ds : List ℕ) → AreDigits ds → digits_value 10 ds < 2 ^ 63
small ds digits = omega (arith, digits_value_short own ds 18 digits.form digits.short)

parses_at : {E : Type 0} (b : Bool) (text : List ℕ) (r : Result ℤ E) → b ≡ starts_with_minus text → ParsesSigned w64 10 text r → AreDigits (if b then drop 1 text else text) → r ≡ Ok (with_sign b (digits_value 10 (if b then drop 1 text else text)))
parses_at true text r same h digits =
    ok_if r _ _ (parse_signed_minus own w64 text r h ((Decides-eqb (get_or text 0 0) 45).0 (sym same))) (digits.form, digits.some, omega (arith, small (drop 1 text) digits))
parses_at false text r same h digits =
    let no_plus : get_or text 0 0 ≢ 43 = not_in_digits own text 43 digits.form (λ within. omega arith) 0 digits.some in
    let no_minus : get_or text 0 0 ≢ 45 = not_in_digits own text 45 digits.form (λ within. omega arith) 0 digits.some in
    ok_if r _ _ (parse_signed_plain own w64 text r h no_plus no_minus) (digits.form, digits.some, omega (arith, small text digits))

-- digits, with a minus where there is one, are parsed
pub parses : {E : Type 0} (text : List ℕ) (r : Result ℤ E) → ParsesSigned w64 10 text r → AreDigits (without_minus text) → r ≡ Ok (with_sign (starts_with_minus text) (digits_value 10 (without_minus text)))
parses text r h digits = parses_at (starts_with_minus text) text r refl h digits
