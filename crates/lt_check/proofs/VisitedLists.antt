-- Lists of what is found and of what is still to be done.
use Rattle.std.proofs.Common.{◌≡◌, ◌∙◌, ◌<◌, ◌≤◌, ℕ, suc, ◌+◌, Bool, true, false, List, [], ◌∷◌, ◌++◌, length, map, ap, refl, sym, arith, append_assoc, append-nil, length-append}
use Rattle.std.proofs.lemmas.Bool.Decides.{nat_tests}
use Rattle.std.specs.Prelude.{if◌then◌else◌, take, nat_le}
use Rattle.lt_term.specs.Evaluated.{Worth}
use Rattle.lt_term.specs.Tree.{Branches, Leaf, Tree, branch, no_branch}
use Rattle.lt_check.specs.inner.Seen.{Sight, positive}
use Rattle.lt_check.specs.inner.Visited.{Todo, all_done, done_with, first_of, leaves_of, leaves_of_parts, let_go, positive_parts, right, visit}

over : (m n : ℕ) → n < m → nat_le m n ≡ false
over m n h = grind (arith, nat_tests)

within : (m n : ℕ) → m ≤ n → nat_le m n ≡ true
within m n h = grind (arith, nat_tests)

module _ {T A : Type 0} (lives : T → Bool) (leaves : T → List A) where
  -- tasks behind others are done before these
  pub done_append : (xs ys : List (Todo T)) (found : List A) → all_done lives leaves (xs ++ ys) found ≡ all_done lives leaves xs (all_done lives leaves ys found)
  done_append [] ys found = refl
  done_append (x ∷ xs) ys found = ap (done_with lives leaves x) (done_append xs ys found)

  -- the last one is done first
  pub done_last : (xs : List (Todo T)) (x : Todo T) (found : List A) → all_done lives leaves (xs ++ x ∷ []) found ≡ all_done lives leaves xs (done_with lives leaves x found)
  done_last xs x found = done_append xs (x ∷ []) found

  -- an order is visited by its left tree, and then by its right one, if need be
  pub order_done : (a b : T) (found : List A) → all_done lives leaves (right a b (length found) ∷ visit a ∷ []) found ≡ found ++ first_of (leaves a) (if lives a then [] else leaves b)
  order_done a b found = by_left (leaves a)
    where
      taken : (found more : List A) → take (length found) (found ++ more) ≡ found
      taken [] more = refl
      taken (x ∷ xs) more = ap (λ ys. x ∷ ys) (taken xs more)

      longer : (y : A) (ys : List A) → nat_le (length (found ++ y ∷ ys)) (length found) ≡ false
      longer y ys = let e : length (found ++ y ∷ ys) ≡ length found + suc (length ys) = length-append found (y ∷ ys) in over (length (found ++ y ∷ ys)) (length found) (omega (arith, e))

      as_long : nat_le (length (found ++ [])) (length found) ≡ true
      as_long = let e : length (found ++ []) ≡ length found = ap length (append-nil found) in within (length (found ++ [])) (length found) (omega (arith, e))

      if_lives : (l : Bool) (more : List A) → let_go l (length found) ((found ++ []) ++ more) ≡ found ++ (if l then [] else more)
      if_lives true more = ap (λ xs. take (length found) (xs ++ more)) (append-nil found) ∙ taken found more ∙ sym (append-nil found)
      if_lives false more = ap (λ xs. xs ++ more) (append-nil found)

      by_left : (xs : List A) → (if nat_le (length (found ++ xs)) (length found) then let_go (lives a) (length found) ((found ++ xs) ++ leaves b) else found ++ xs) ≡ found ++ first_of xs (if lives a then [] else leaves b)
      by_left [] = ap (λ c. if c then let_go (lives a) (length found) ((found ++ []) ++ leaves b) else found ++ []) as_long ∙ if_lives (lives a) (leaves b)
      by_left (y ∷ ys) = ap (λ c. if c then let_go (lives a) (length found) ((found ++ y ∷ ys) ++ leaves b) else found ++ y ∷ ys) (longer y ys)

module _ {C F N : Type 0} (worth : Worth C F) (sight : Sight C N) (lives : Tree C N → Bool) where
  abbrev leaves : Tree C N → List (Leaf C N)
  leaves a = leaves_of worth sight lives a

  -- a choice is visited by its parts of positive weight
  pub parts_done : (bs : Branches C N) (vs : List ℕ) (found : List (Leaf C N)) → all_done lives leaves (map visit (positive_parts bs vs)) found ≡ found ++ leaves_of_parts worth sight lives bs vs
  parts_done no_branch vs found = sym (append-nil found)
  parts_done (branch w a bs) [] found = sym (append-nil found)
  parts_done (branch w a bs) (v ∷ vs) found = by_sign (positive v) (parts_done bs vs found)
    where
      by_sign : (p : Bool) → all_done lives leaves (map visit (positive_parts bs vs)) found ≡ found ++ leaves_of_parts worth sight lives bs vs → all_done lives leaves (map visit ((if p then a ∷ [] else []) ++ positive_parts bs vs)) found ≡ found ++ (leaves_of_parts worth sight lives bs vs ++ (if p then leaves a else []))
      by_sign true rest = ap (λ xs. xs ++ leaves a) rest ∙ append_assoc found (leaves_of_parts worth sight lives bs vs) (leaves a)
      by_sign false rest = rest ∙ ap (λ xs. found ++ xs) (sym (append-nil (leaves_of_parts worth sight lives bs vs)))
