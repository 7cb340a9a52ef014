-- Numbers by all digits but the last.
use Rattle.std.proofs.Common.{◌≡◌, ◌<◌, ◌/◌, ◌%◌, ◌+◌, ◌^◌, ℕ, List, [], ◌∷◌, ◌++◌, decimal, ap, refl, ◌∙◌, arith, ⊎_elim, length, codes, append_assoc, length-append}
use Rattle.std.proofs.lemmas.Fmt.{decimal_digit, decimal_step}
use Rattle.std.proofs.lemmas.Bool.{cases_order}
use Rattle.lt_rif.specs.Numbering.{number_line}
use Rattle.lt_rif.specs.Trace.{line}
use Rattle.lt_rif.specs.inner.Head.{leading}

-- of one digit
one : (n t d : ℕ) → t ≡ 0 → d ≡ n → n < 10 → decimal n ≡ leading t ++ ((48 + d) ∷ [])
one n t d none same l = rw (none, same, decimal_digit n l) refl

-- of more
more : (n t : ℕ) → 0 < t → decimal n ≡ decimal t ++ ((48 + n % 10) ∷ []) → decimal n ≡ leading t ++ ((48 + n % 10) ∷ [])
more n t some is = grind (arith, some, is)

last_digit : (n : ℕ) → n < 2 ^ 64 → decimal n ≡ leading (n / 10) ++ ((48 + n % 10) ∷ [])
last_digit n small =
    let few : n < 10 → decimal n ≡ leading (n / 10) ++ ((48 + n % 10) ∷ []) = λ l. one n (n / 10) (n % 10) (omega (arith, l)) (omega (arith, l)) l in
    ⊎_elim
    (λ l. few (omega (arith, l)))
    (⊎_elim (λ l. few (omega (arith, l))) (λ l. more n (n / 10) (omega (arith, l)) (decimal_step n (omega (arith, l)) small)))
    (cases_order n 9)

-- the line of a number, by what it begins with
pub by_head : (n : ℕ) → n < 2 ^ 64 → number_line n ≡ (codes "#step " ++ leading (n / 10)) ++ ((48 + n % 10) ∷ 10 ∷ [])
by_head n small =
    ap (λ (digits : List ℕ). line (codes "#step " ++ digits)) (last_digit n small)
    ∙ ap (λ (digits : List ℕ). codes "#step " ++ digits) (append_assoc (leading (n / 10)) ((48 + n % 10) ∷ []) (10 ∷ []))

-- and how long it is
pub long_by_head : (n : ℕ) → n < 2 ^ 64 → length (number_line n) ≡ length (codes "#step " ++ leading (n / 10)) + 2
long_by_head n small = ap (λ (text : List ℕ). length text) (by_head n small) ∙ length-append (codes "#step " ++ leading (n / 10)) ((48 + n % 10) ∷ 10 ∷ [])
