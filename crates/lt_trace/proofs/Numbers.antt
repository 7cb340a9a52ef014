-- Numbers in decimal digits.
use Rattle.std.proofs.Common.{◌≡◌, ◌<◌, ◌≤◌, ℕ, suc, ◌+◌, ◌-◌, ◌*◌, ◌^◌, true, false, List, [], ◌∷◌, length, drop, get_or, decimal, ap, sym, ◌∙◌, arith, drop-cons, refl, Option, None, Some, IfSome}
use Rattle.std.specs.Char.{digit_value}
use Rattle.std.specs.Char.{is_ascii_digit}
use Rattle.std.specs.List.{list_any}
use Rattle.std.specs.Str.{all_ascii_digits}
use Rattle.std.specs.Str.Parse.{digits_value, digits_value_after}
use Rattle.std.proofs.lemmas.Bool.{and_parts}
use Rattle.std.proofs.lemmas.Bool.Decides.{Decides-eqb, nat_tests}
use Rattle.std.proofs.lemmas.Fmt.{decimal_is_IsNumeral_wide}
use Rattle.std.proofs.lemmas.Str.Parse.{numerals_by_value, tells_all_ascii_digits, IsNumeralModel}
use Rattle.lt_trace.specs.inner.Words.{is_space}
use Rattle.lt_trace.proofs.Words.{either}

own : IsNumeralModel (λ ds. all_ascii_digits ds ≡ true) (digits_value 10)
own = numerals_by_value _ tells_all_ascii_digits

pub decimal-back : (n : ℕ) → n < 2 ^ 128 → (all_ascii_digits (decimal n) ≡ true) × (digits_value 10 (decimal n) ≡ n)
decimal-back n small = let w = decimal_is_IsNumeral_wide n (omega arith) in (own.from (decimal n) w.0.1, w.1)

after-grows : (xs : List ℕ) (v : ℕ) → v ≤ digits_value_after 10 v xs
after-grows [] v = omega arith
after-grows (x ∷ xs) v = let h = after-grows xs (v * 10 + digit_value x) in omega arith

digit-is : (b : ℕ) → 48 ≤ b → b ≤ 57 → digit_value b ≡ b - 48
digit-is b low high = grind (arith, nat_tests)

-- the digits up to one more write no less than what was read with it
pub digits-grow : (text : List ℕ) (i v whole : ℕ) → i < length text → 48 ≤ get_or text i 0 → get_or text i 0 ≤ 57 → digits_value_after 10 v (drop i text) ≡ whole → v * 10 + (get_or text i 0 - 48) ≤ whole
digits-grow text i v whole within low high e =
    let b = get_or text i 0 in
    let cut : drop i text ≡ b ∷ drop (suc i) text = drop-cons text i 0 within in
    let f : digits_value_after 10 (v * 10 + digit_value b) (drop (suc i) text) ≡ whole = ap (λ (t : List ℕ). digits_value_after 10 v t) (sym cut) ∙ e in
    let g = after-grows (drop (suc i) text) (v * 10 + digit_value b) in
    let d = digit-is b low high in
    omega arith

-- the number of a decimal text is found
pub number-found : (text : List ℕ) (o : Option ℕ) → IfSome o (λ v. v ≡ digits_value 10 text) → (o ≡ None → all_ascii_digits text ≡ true → 2 ^ 128 ≤ digits_value 10 text) → (n : ℕ) → n < 2 ^ 128 → text ≡ decimal n → o ≡ Some n
number-found text None is big n small e =
    let back = decimal-back n small in
    let most = big refl (ap all_ascii_digits e ∙ back.0) in
    let value : digits_value 10 text ≡ n = ap (digits_value 10) e ∙ back.1 in
    absurd (omega arith)
number-found text (Some v) is big n small e =
    let back = decimal-back n small in
    ap (λ (k : ℕ). Some k) (is ∙ ap (digits_value 10) e ∙ back.1)

-- digits have no space among them
pub digits-unspaced : (text : List ℕ) → all_ascii_digits text ≡ true → list_any is_space text ≡ false
digits-unspaced [] all = refl
digits-unspaced (b ∷ text) all =
    either (is_space b)
    (λ t. absurd (let byte : b ≡ 32 = (Decides-eqb b 32).0 t in let f = rw byte at all in cc))
    (λ t. rw t (digits-unspaced text (and_parts (is_ascii_digit b) (all_ascii_digits text) all).1))
