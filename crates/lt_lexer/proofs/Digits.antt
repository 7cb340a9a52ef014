-- How many digits a number has.
use Rattle.std.proofs.Common.{◌≡◌, ℕ, ◌+◌, ◌-◌, Bool, true, false, cond, List, [], ◌∷◌, length, refl, ap, sym, ◌∙◌, arith, subst, count_by, drop, codes}
use Rattle.std.specs.List.{list_all, prefix_len}
use Rattle.std.specs.Char.{is_ascii_digit}
use Rattle.std.proofs.lemmas.Bool.{cond_both, cond-true, cond-false, eqb-true}
use Rattle.std.proofs.lemmas.Bool.Decides.{nat_tests}
use Rattle.std.proofs.lemmas.List.Sums.{sum_by-cons, sum_by-append}
use Rattle.lt_num.specs.Literal.{is_point}
use Rattle.lt_lexer.specs.Byte.{begins_with}
use Rattle.lt_lexer.specs.inner.Reading.{leading, after_leading, fraction, number_bytes}
use Rattle.lt_lexer.proofs.Bools.{left_of, right_of}
use Rattle.lt_lexer.proofs.Runs.{leading-passes, length-leading}

-- one for each element that passes
abbrev one : (ℕ → Bool) → ℕ → ℕ
one p x = cond (p x) 1 0

-- all of them count, where all pass
pub count_by-all : (p : ℕ → Bool) (xs : List ℕ) → list_all p xs ≡ true → count_by p xs ≡ length xs
count_by-all p [] h = refl
count_by-all p (x ∷ xs) h =
    let here : one p x ≡ 1 = cond-true (p x) 1 0 (left_of (p x) (list_all p xs) h) in
    let rest : count_by p xs ≡ length xs = count_by-all p xs (right_of (p x) _ h) in
    omega (arith, sum_by-cons (one p) x xs)

-- a point is no digit
pub digit-point : (b : ℕ) → is_point b ≡ true → is_ascii_digit b ≡ false
digit-point b h = let e : b ≡ 46 = eqb-true b 46 h in let P : ℕ → Type 0 = λ n. is_ascii_digit n ≡ false in subst P (sym e) refl

-- the point counts for no digit
count_by-fraction : (xs : List ℕ) → count_by is_ascii_digit (fraction xs) ≡ length (fraction xs) - 1
count_by-fraction [] = refl
count_by-fraction (b ∷ bs) =
    cond_both (is_point b) (b ∷ leading is_ascii_digit bs) [] (λ l. count_by is_ascii_digit l ≡ length l - 1)
    (λ t.
    let here : one is_ascii_digit b ≡ 0 = ap (λ v. cond v 1 0) (digit-point b t) in
    let rest = count_by-all is_ascii_digit (leading is_ascii_digit bs) (leading-passes is_ascii_digit bs) in
    omega (arith, sum_by-cons (one is_ascii_digit) b (leading is_ascii_digit bs), here, rest))
    (λ f. refl)

-- the digits of the number at the front of a text
pub count_by-number_bytes : (xs : List ℕ) → count_by is_ascii_digit (number_bytes xs) ≡ length (leading is_ascii_digit xs) + (length (fraction (after_leading is_ascii_digit xs)) - 1)
count_by-number_bytes xs =
    let whole = count_by-all is_ascii_digit (leading is_ascii_digit xs) (leading-passes is_ascii_digit xs) in
    omega (arith, sum_by-append (one is_ascii_digit) (leading is_ascii_digit xs) (fraction (after_leading is_ascii_digit xs)), whole, count_by-fraction (after_leading is_ascii_digit xs))

-- a point is one, whichever way it is asked
point-starts : (b : ℕ) (bs : List ℕ) → is_point b ≡ begins_with (codes ".") (b ∷ bs)
point-starts b bs = grind (arith, nat_tests)

-- after a point stand digits
pub fraction_from_point : (text : List ℕ) (n : ℕ) → begins_with (codes ".") text ≡ true → n ≡ prefix_len is_ascii_digit (drop 1 text) → 1 + n ≡ length (fraction text)
fraction_from_point [] n h d = absurd (cc)
fraction_from_point (b ∷ bs) n h d =
    let same : fraction (b ∷ bs) ≡ b ∷ leading is_ascii_digit bs = cond-true _ _ _ (point-starts b bs ∙ h) in
    omega (arith, length-leading is_ascii_digit bs, ap length same)

pub fraction_without_point : (text : List ℕ) → begins_with (codes ".") text ≡ false → 0 ≡ length (fraction text)
fraction_without_point [] h = refl
fraction_without_point (b ∷ bs) h = sym (ap length (cond-false _ (b ∷ leading is_ascii_digit bs) [] (point-starts b bs ∙ h)))

pub ruleset fraction_cases = (fraction_from_point, fraction_without_point)
