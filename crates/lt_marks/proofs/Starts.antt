-- Bodies at their beginning.
use Rattle.std.proofs.Common.{◌≡◌, ◌≤◌, ℕ, suc, Bool, IsTrue, nat_eq, nat_le, List, ◌++◌, refl, ap, sym, ◌∙◌, subst}
use Rattle.std.proofs.lemmas.Bool.{eqb-true, leb-true}
use Rattle.std.proofs.lemmas.List.Folds.{list_all-append}
use Rattle.std.specs.List.{list_all}
use Rattle.lt_term.proofs.Public.{left_of, right_of}
use Rattle.lt_term.specs.declared.last.Last.{Last}
use Rattle.lt_term.specs.declared.last.Last.TheVariants as last
use Rattle.lt_term.specs.Process.{Process, eps, dead, con, raise, seq, loop, count, any, pri, par, assert, exist, catch, try, Choices, no_choice, choice, with_constraints, choices_with_constraints}
use Rattle.lt_term.specs.Subterms.{subterms, subterms_of_each, is_first, is_unbegun, is_at_start, alternatives, is_narrow_choice, is_narrow}
use Rattle.lt_marks.specs.Narrow.{IsNarrow, AreNarrow}
use Rattle.lt_marks.specs.Start.{IsAtStart, AreAtStart}

front : {X : Type 0} (p : X → Bool) (xs ys : List X) → IsTrue (list_all p (xs ++ ys)) → IsTrue (list_all p xs)
front p xs ys h = left_of _ _ (sym (list_all-append p xs ys) ∙ h)

back : {X : Type 0} (p : X → Bool) (xs ys : List X) → IsTrue (list_all p (xs ++ ys)) → IsTrue (list_all p ys)
back p xs ys h = right_of (list_all p xs) _ (sym (list_all-append p xs ys) ∙ h)

first : (v : Last) → IsTrue (is_first v) → v ≡ last.First
first last.First h = refl
first (last.Kept v) h = absurd (cc)

module _ {C D : Type 0} (f : C → D) where
  -- each term of a list is unbegun
  abbrev Unbegun : List (Process D) → Type 0
  Unbegun xs = IsTrue (list_all is_unbegun xs)

  mutual
    starts : (p : Process C) → Unbegun (subterms (with_constraints f p)) → IsAtStart p
    starts eps h = tt
    starts dead h = tt
    starts (con c) h = tt
    starts (raise z) h = tt
    starts (seq a b) h = (starts a (front is_unbegun (subterms (with_constraints f a)) _ h), starts b (back is_unbegun (subterms (with_constraints f a)) _ h))
    starts (loop t) h = starts t h
    starts (count i done t) h = (eqb-true done 0 (left_of (nat_eq done 0) _ h), starts t (right_of (nat_eq done 0) _ h))
    starts (any cs) h = each_starts cs h
    starts (pri a b) h = (starts a (front is_unbegun (subterms (with_constraints f a)) _ h), starts b (back is_unbegun (subterms (with_constraints f a)) _ h))
    starts (par a b) h = (starts a (front is_unbegun (subterms (with_constraints f a)) _ h), starts b (back is_unbegun (subterms (with_constraints f a)) _ h))
    starts (assert c t) h = starts t h
    starts (exist x v t) h = (first v (left_of (is_first v) _ h), starts t (right_of (is_first v) _ h))
    starts (catch z t b) h = (starts t (front is_unbegun (subterms (with_constraints f t)) _ h), starts b (back is_unbegun (subterms (with_constraints f t)) _ h))
    starts (try t b) h = (starts t (front is_unbegun (subterms (with_constraints f t)) _ h), starts b (back is_unbegun (subterms (with_constraints f t)) _ h))

    each_starts : (cs : Choices C) → Unbegun (subterms_of_each (choices_with_constraints f cs)) → AreAtStart cs
    each_starts no_choice h = tt
    each_starts (choice w t cs) h = (starts t (front is_unbegun (subterms (with_constraints f t)) _ h), each_starts cs (back is_unbegun (subterms (with_constraints f t)) _ h))

-- a body of which nothing is done is at its start
pub body_starts : {C D : Type 0} (f : C → D) (p : Process C) → IsTrue (is_at_start (with_constraints f p)) → IsAtStart p
body_starts f p h = starts f p h

-- Choices.

module _ {C D : Type 0} (f : C → D) where
  -- each term of a list has few enough alternatives
  abbrev Few : List (Process D) → Type 0
  Few xs = IsTrue (list_all is_narrow_choice xs)

  same_alternatives : (cs : Choices C) → alternatives (choices_with_constraints f cs) ≡ alternatives cs
  same_alternatives no_choice = refl
  same_alternatives (choice w t cs) = ap suc (same_alternatives cs)

  mutual
    narrows : (p : Process C) → Few (subterms (with_constraints f p)) → IsNarrow p
    narrows eps h = tt
    narrows dead h = tt
    narrows (con c) h = tt
    narrows (raise z) h = tt
    narrows (seq a b) h = (narrows a (front is_narrow_choice (subterms (with_constraints f a)) _ h), narrows b (back is_narrow_choice (subterms (with_constraints f a)) _ h))
    narrows (loop t) h = narrows t h
    narrows (count i done t) h = narrows t h
    narrows (any cs) h =
        let n : ℕ = alternatives (choices_with_constraints f cs) in
        let few : n ≤ 64 = leb-true n 64 (left_of (nat_le n 64) _ h) in
        (subst (λ m. m ≤ 64) (same_alternatives cs) few, each_narrows cs (right_of (nat_le n 64) _ h))
    narrows (pri a b) h = (narrows a (front is_narrow_choice (subterms (with_constraints f a)) _ h), narrows b (back is_narrow_choice (subterms (with_constraints f a)) _ h))
    narrows (par a b) h = (narrows a (front is_narrow_choice (subterms (with_constraints f a)) _ h), narrows b (back is_narrow_choice (subterms (with_constraints f a)) _ h))
    narrows (assert c t) h = narrows t h
    narrows (exist x v t) h = narrows t h
    narrows (catch z t b) h = (narrows t (front is_narrow_choice (subterms (with_constraints f t)) _ h), narrows b (back is_narrow_choice (subterms (with_constraints f t)) _ h))
    narrows (try t b) h = (narrows t (front is_narrow_choice (subterms (with_constraints f t)) _ h), narrows b (back is_narrow_choice (subterms (with_constraints f t)) _ h))

    each_narrows : (cs : Choices C) → Few (subterms_of_each (choices_with_constraints f cs)) → AreNarrow cs
    each_narrows no_choice h = tt
    each_narrows (choice w t cs) h = (narrows t (front is_narrow_choice (subterms (with_constraints f t)) _ h), each_narrows cs (back is_narrow_choice (subterms (with_constraints f t)) _ h))

-- a body whose choices have few enough alternatives is narrow
pub body_narrow : {C D : Type 0} (f : C → D) (p : Process C) → IsTrue (is_narrow (with_constraints f p)) → IsNarrow p
body_narrow f p h = narrows f p h
