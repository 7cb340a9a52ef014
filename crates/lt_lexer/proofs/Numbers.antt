-- The number at the front of a text.
use Rattle.std.proofs.Common.{◌≡◌, ℕ, ◌≤◌, Bool, true, false, cond, ◌&&◌, List, [], ◌∷◌, ◌++◌, length, refl, ap, sym, ◌∙◌, arith, subst, append_assoc}
use Rattle.std.specs.List.{list_all}
use Rattle.std.specs.Char.{is_ascii_digit, is_ascii_alphabetic}
use Rattle.std.proofs.lemmas.Bool.{cond_both, cond-true}
use Rattle.lt_num.specs.Literal.{is_point, is_number, continues_number}
use Rattle.lt_lexer.specs.Piece.{IsToken, IsLongest}
use Rattle.lt_lexer.specs.declared.token.TokenKind.TheVariants.{Number}
use Rattle.lt_lexer.specs.inner.Reading.{leading, after_leading, fraction, after_fraction, number_bytes}
use Rattle.lt_lexer.proofs.Bools.{both, left_of, right_of, left_or, right_or, other_or, is_false, first_or, left_false}
use Rattle.lt_lexer.proofs.Runs.{leading-longest, leading-after, leading-passes}
use Rattle.lt_lexer.proofs.Digits.{digit-point}
use Rattle.lt_lexer.proofs.Starts.{longest_of}

fraction-after : (xs : List ℕ) → fraction xs ++ after_fraction xs ≡ xs
fraction-after [] = refl
fraction-after (x ∷ xs) = elim (is_point x) as (λ v. cond v (x ∷ leading is_ascii_digit xs) [] ++ cond v (after_leading is_ascii_digit xs) (x ∷ xs) ≡ x ∷ xs) [ true ↦ ap (λ l. x ∷ l) (leading-after is_ascii_digit xs) | false ↦ refl ]

pub number_bytes-after : (xs : List ℕ) → number_bytes xs ++ after_fraction (after_leading is_ascii_digit xs) ≡ xs
number_bytes-after xs =
    append_assoc (leading is_ascii_digit xs) (fraction (after_leading is_ascii_digit xs)) (after_fraction (after_leading is_ascii_digit xs))
    ∙ ap (λ l. leading is_ascii_digit xs ++ l) (fraction-after (after_leading is_ascii_digit xs))
    ∙ leading-after is_ascii_digit xs

-- a digit in front is one more byte of the number
number_bytes-digit : (x : ℕ) (xs : List ℕ) → is_ascii_digit x ≡ true → number_bytes (x ∷ xs) ≡ x ∷ number_bytes xs
number_bytes-digit x xs h = let P : Bool → Type 0 = λ v. cond v (x ∷ leading is_ascii_digit xs) [] ++ fraction (cond v (after_leading is_ascii_digit xs) (x ∷ xs)) ≡ x ∷ number_bytes xs in subst P (sym h) refl

-- without a digit in front there is at most a fraction
number_bytes-other : (x : ℕ) (xs : List ℕ) → is_ascii_digit x ≡ false → number_bytes (x ∷ xs) ≡ fraction (x ∷ xs)
number_bytes-other x xs h = let P : Bool → Type 0 = λ v. cond v (x ∷ leading is_ascii_digit xs) [] ++ fraction (cond v (after_leading is_ascii_digit xs) (x ∷ xs)) ≡ fraction (x ∷ xs) in subst P (sym h) refl

-- they are a number

continues-fraction : (x : ℕ) (xs : List ℕ) → continues_number (fraction (x ∷ xs)) ≡ true
continues-fraction x xs =
    cond_both (is_point x) (x ∷ leading is_ascii_digit xs) [] (λ l. continues_number l ≡ true)
    (λ t. right_or _ _ (both _ _ t (leading-passes is_ascii_digit xs)))
    (λ f. refl)

continues-digit : (x : ℕ) (xs : List ℕ) → is_ascii_digit x ≡ true → continues_number xs ≡ true → continues_number (x ∷ xs) ≡ true
continues-digit x xs h k = left_or _ _ (both _ _ h k)

continues-step : (v : Bool) (x : ℕ) (xs : List ℕ) → is_ascii_digit x ≡ v → continues_number (number_bytes xs) ≡ true → continues_number (number_bytes (x ∷ xs)) ≡ true
continues-step true x xs h k = ap continues_number (number_bytes-digit x xs h) ∙ continues-digit x (number_bytes xs) h k
continues-step false x xs h k = ap continues_number (number_bytes-other x xs h) ∙ continues-fraction x xs

continues-number_bytes : (xs : List ℕ) → continues_number (number_bytes xs) ≡ true
continues-number_bytes [] = refl
continues-number_bytes (x ∷ xs) = continues-step (is_ascii_digit x) x xs refl (continues-number_bytes xs)

pub is_number-number_bytes : (x : ℕ) (xs : List ℕ) → is_ascii_digit x ≡ true → is_number (number_bytes (x ∷ xs)) ≡ true
is_number-number_bytes x xs h = ap is_number (number_bytes-digit x xs h) ∙ both _ _ h (continues-number_bytes xs)

-- and the longest one

continues-bound : (v : Bool) (x : ℕ) (xs ys : List ℕ) → is_ascii_digit x ≡ v → (continues_number xs ≡ true → length xs ≤ length (number_bytes (xs ++ ys))) → continues_number (x ∷ xs) ≡ true → length (x ∷ xs) ≤ length (number_bytes (x ∷ xs ++ ys))
continues-bound true x xs ys d bound h =
    let no_point : is_point x ≡ false = is_false (is_point x) (λ p. let f = digit-point x p in cc (d, f)) in
    let goes_on : continues_number xs ≡ true = right_of (is_ascii_digit x) _ (first_or _ _ h (left_false (is_point x) _ no_point)) in
    omega (arith, bound goes_on, ap length (number_bytes-digit x (xs ++ ys) d))
continues-bound false x xs ys d bound h =
    let pointed : (is_point x && list_all is_ascii_digit xs) ≡ true = other_or _ _ h (left_false (is_ascii_digit x) _ d) in
    let fraction_is : fraction (x ∷ xs ++ ys) ≡ x ∷ leading is_ascii_digit (xs ++ ys) = cond-true _ _ _ (left_of (is_point x) _ pointed) in
    omega (arith, leading-longest is_ascii_digit xs ys (right_of (is_point x) _ pointed), ap length (number_bytes-other x (xs ++ ys) d), ap length fraction_is)

-- a front that may continue a number is no longer than what does
continues-longest : (xs ys : List ℕ) → continues_number xs ≡ true → length xs ≤ length (number_bytes (xs ++ ys))
continues-longest [] ys h = omega arith
continues-longest (x ∷ xs) ys h = continues-bound (is_ascii_digit x) x xs ys refl (continues-longest xs ys) h

number_bound : (b : ℕ) (bs front rest : List ℕ) → b ∷ bs ≡ front ++ rest → IsToken Number front → length front ≤ length (number_bytes (b ∷ bs))
number_bound b bs [] rest e h = omega arith
number_bound b bs (f ∷ fs) rest e h =
    let digit = left_of (is_ascii_digit f) (continues_number fs) h in
    omega (arith, continues-longest (f ∷ fs) rest (continues-digit f fs digit (right_of (is_ascii_digit f) _ h)), ap (λ l. length (number_bytes l)) e)

pub number_longest : (b : ℕ) (bs : List ℕ) → is_ascii_digit b ≡ true → is_ascii_alphabetic b ≡ false → IsLongest (number_bytes (b ∷ bs)) (after_fraction (after_leading is_ascii_digit (b ∷ bs)))
number_longest b bs h k = longest_of Number (number_bytes (b ∷ bs)) (after_fraction (after_leading is_ascii_digit (b ∷ bs))) b bs (number_bytes-after (b ∷ bs)) (k, h) (number_bound b bs)
