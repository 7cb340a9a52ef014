-- The bytes at the front of a text that pass a test.
use Rattle.std.proofs.Common.{◌≡◌, ℕ, ◌+◌, ◌≤◌, Bool, true, false, cond, List, [], ◌∷◌, ◌++◌, length, drop, refl, ap, arith}
use Rattle.std.specs.List.{prefix_len, list_all}
use Rattle.std.proofs.lemmas.Bool.{cond_both, cond-true}
use Rattle.std.proofs.lemmas.List.Sums.{prefix_len-le-length}
use Rattle.lt_lexer.specs.inner.Reading.{leading, after_leading}
use Rattle.lt_lexer.proofs.Bools.{both, left_of, right_of}

-- there are as many as std counts
pub length-leading : (p : ℕ → Bool) (xs : List ℕ) → length (leading p xs) ≡ prefix_len p xs
length-leading p [] = refl
length-leading p (x ∷ xs) = elim (p x) as (λ v. length (cond v (x ∷ leading p xs) []) ≡ cond v (1 + prefix_len p xs) 0) [ true ↦ omega (arith, length-leading p xs) | false ↦ refl ]

pub leading-short : (p : ℕ → Bool) (xs : List ℕ) → length (leading p xs) ≤ length xs
leading-short p xs = omega (arith, length-leading p xs, prefix_len-le-length p xs)

-- they and the bytes after them are the whole
pub leading-after : (p : ℕ → Bool) (xs : List ℕ) → leading p xs ++ after_leading p xs ≡ xs
leading-after p [] = refl
leading-after p (x ∷ xs) = elim (p x) as (λ v. cond v (x ∷ leading p xs) [] ++ cond v (after_leading p xs) (x ∷ xs) ≡ x ∷ xs) [ true ↦ ap (λ l. x ∷ l) (leading-after p xs) | false ↦ refl ]

-- the bytes after them
pub drop-leading : (p : ℕ → Bool) (xs : List ℕ) → drop (length (leading p xs)) xs ≡ after_leading p xs
drop-leading p [] = refl
drop-leading p (x ∷ xs) = elim (p x) as (λ v. drop (length (cond v (x ∷ leading p xs) [])) (x ∷ xs) ≡ cond v (after_leading p xs) (x ∷ xs)) [ true ↦ drop-leading p xs | false ↦ refl ]

pub ruleset runs = (length-leading, leading-short, drop-leading)

-- each of them passes
pub leading-passes : (p : ℕ → Bool) (xs : List ℕ) → list_all p (leading p xs) ≡ true
leading-passes p [] = refl
leading-passes p (x ∷ xs) = cond_both (p x) (x ∷ leading p xs) [] (λ l. list_all p l ≡ true) (λ t. both (p x) _ t (leading-passes p xs)) (λ f. refl)

-- a front of which each element passes is no longer than the leading ones
pub leading-longest : (p : ℕ → Bool) (xs ys : List ℕ) → list_all p xs ≡ true → length xs ≤ length (leading p (xs ++ ys))
leading-longest p [] ys h = omega arith
leading-longest p (x ∷ xs) ys h =
    let more : leading p (x ∷ xs ++ ys) ≡ x ∷ leading p (xs ++ ys) = cond-true _ _ _ (left_of (p x) (list_all p xs) h) in
    omega (arith, leading-longest p xs ys (right_of (p x) _ h), ap length more)
