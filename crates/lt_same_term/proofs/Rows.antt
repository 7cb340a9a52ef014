-- Parts of choices, one after another.
use Rattle.std.proofs.Common.{◌≡◌, ◌<◌, ◌≤◌, ◌+◌, ℕ, Bool, true, false, ◌&&◌, nat_eq, List, [], ◌∷◌, length, drop, get_or, refl, ap, sym, ◌∙◌, arith}
use Rattle.std.proofs.lemmas.List.{drop_all, drop_more}
use Rattle.lt_term.specs.View.{choices, process}
use Rattle.lt_term.specs.declared.term.Term.{Term}
use Rattle.lt_same_term.specs.Alike.{alike, choices_alike}

number_differs : (m n : ℕ) → (m ≡ n → ⊥) → nat_eq m n ≡ false
number_differs m n h = by_truth (nat_eq m n) refl
  where
    by_truth : (b : Bool) → b ≡ nat_eq m n → nat_eq m n ≡ false
    by_truth true e = absurd (h (grind (arith, e)))
    by_truth false e = sym e

number_same : (m n : ℕ) → m ≡ n → nat_eq m n ≡ true
number_same m n e = grind (arith, e)

module _ (ps : List (ℕ × Term)) (i : ℕ) (item : ℕ × Term) (rest : List (ℕ × Term)) (l : i < length ps) (at : item ≡ get_or ps i item) where
  front : drop i ps ≡ item ∷ drop (i + 1) ps
  front = drop_more ps i item l ∙ ap (λ p. p ∷ drop (i + 1) ps) (sym at)

  whole : choices_alike (choices (drop i ps)) (choices rest) ≡ choices_alike (choices (item ∷ drop (i + 1) ps)) (choices rest)
  whole = ap (λ xs. choices_alike (choices xs) (choices rest)) front

  pub none_left : length rest ≡ 0 → false ≡ choices_alike (choices (drop i ps)) (choices rest)
  none_left e = by_rest rest e ∙ sym whole
    where
      by_rest : (r : List (ℕ × Term)) → length r ≡ 0 → false ≡ choices_alike (choices (item ∷ drop (i + 1) ps)) (choices r)
      by_rest [] e = refl
      by_rest (q ∷ r) e = absurd (omega (arith, e))

  module _ (q : ℕ × Term) (more : List (ℕ × Term)) (is : rest ≡ q ∷ more) where
    there : choices_alike (choices (drop i ps)) (choices rest) ≡ (nat_eq item.0 q.0 && (alike (process item.1) (process q.1) && choices_alike (choices (drop (i + 1) ps)) (choices more)))
    there = whole ∙ ap (λ xs. choices_alike (choices (item ∷ drop (i + 1) ps)) (choices xs)) is

    pub weights_differ : (item.0 ≡ q.0 → ⊥) → false ≡ choices_alike (choices (drop i ps)) (choices rest)
    weights_differ h = sym (there ∙ ap (λ b. b && (alike (process item.1) (process q.1) && choices_alike (choices (drop (i + 1) ps)) (choices more))) (number_differs item.0 q.0 h))

    pub parts_differ : item.0 ≡ q.0 → false ≡ alike (process item.1) (process q.1) → false ≡ choices_alike (choices (drop i ps)) (choices rest)
    parts_differ e h =
        sym (there ∙ ap (λ b. b && (alike (process item.1) (process q.1) && choices_alike (choices (drop (i + 1) ps)) (choices more))) (number_same item.0 q.0 e)
        ∙ ap (λ b. b && choices_alike (choices (drop (i + 1) ps)) (choices more)) (sym h))

    pub goes_on : item.0 ≡ q.0 → true ≡ alike (process item.1) (process q.1) → choices_alike (choices (drop i ps)) (choices rest) ≡ choices_alike (choices (drop (i + 1) ps)) (choices more)
    goes_on e h =
        there ∙ ap (λ b. b && (alike (process item.1) (process q.1) && choices_alike (choices (drop (i + 1) ps)) (choices more))) (number_same item.0 q.0 e)
        ∙ ap (λ b. b && choices_alike (choices (drop (i + 1) ps)) (choices more)) (sym h)

pub all_passed : (ps : List (ℕ × Term)) (i : ℕ) (rest : List (ℕ × Term)) → length ps ≤ i → nat_eq (length rest) 0 ≡ choices_alike (choices (drop i ps)) (choices rest)
all_passed ps i rest l = by_rest rest ∙ sym (ap (λ xs. choices_alike (choices xs) (choices rest)) (drop_all i ps l))
  where
    by_rest : (r : List (ℕ × Term)) → nat_eq (length r) 0 ≡ choices_alike (choices []) (choices r)
    by_rest [] = refl
    by_rest (q ∷ r) = grind arith
