-- What the body of a scenario is known for: how its locals and counters are numbered, and that nothing of it is done.
use Rattle.std.proofs.Common.{◌≡◌, ◌≤◌, ◌+◌, ℕ, zero, suc, Bool, true, ◌&&◌, IsTrue, nat_eq, nat_lt, List, ◌++◌, refl, ap, sym, ◌∙◌, arith}
use Rattle.std.proofs.lemmas.Bool.{eqb-true, lt-ltb}
use Rattle.std.proofs.lemmas.Grind.{flat_map-append}
use Rattle.std.proofs.lemmas.List.Folds.{list_all-append}
use Rattle.std.specs.List.{flat_map, list_all}
use Rattle.lt_term.proofs.Tests.{both, left_of, right_of}
use Rattle.lt_term.specs.Counted.{IsCounted, IsDoneTo, AreDoneTo}
use Rattle.lt_term.specs.Process.{Process, eps, dead, con, raise, seq, loop, count, any, pri, par, assert, exist, catch, try, Choices, no_choice, choice, with_constraints, choices_with_constraints}
use Rattle.lt_term.specs.Subterms.{subterms, subterms_of_each, local_at, counter_at, locals_in, counters_in, numbers_from, is_first, is_unbegun, is_at_start}
use Rattle.lt_term.specs.Within.{Tests, passes, each_passes, is_within, below}

front : {X : Type 0} (p : X → Bool) (xs ys : List X) → IsTrue (list_all p (xs ++ ys)) → IsTrue (list_all p xs)
front p xs ys h = left_of _ _ (sym (list_all-append p xs ys) ∙ h)

back : {X : Type 0} (p : X → Bool) (xs ys : List X) → IsTrue (list_all p (xs ++ ys)) → IsTrue (list_all p ys)
back p xs ys h = right_of (list_all p xs) _ (sym (list_all-append p xs ys) ∙ h)

-- no turn is few turns
few : (k done : ℕ) → IsTrue (nat_eq done 0) → done ≤ k
few k done h = let e : done ≡ 0 = eqb-true done 0 h in omega (arith, e)

module _ {C D : Type 0} (f : C → D) (k : ℕ) where
  mutual
    counted : (p : Process C) → IsTrue (list_all is_unbegun (subterms (with_constraints f p))) → IsDoneTo k p
    counted eps h = tt
    counted dead h = tt
    counted (con c) h = tt
    counted (raise z) h = tt
    counted (seq a b) h = (counted a (front is_unbegun (subterms (with_constraints f a)) _ h), counted b (back is_unbegun (subterms (with_constraints f a)) _ h))
    counted (loop t) h = counted t h
    counted (count i done t) h = (few k done (left_of (nat_eq done 0) _ h), counted t (right_of (nat_eq done 0) _ h))
    counted (any cs) h = each_counted cs h
    counted (pri a b) h = (counted a (front is_unbegun (subterms (with_constraints f a)) _ h), counted b (back is_unbegun (subterms (with_constraints f a)) _ h))
    counted (par a b) h = (counted a (front is_unbegun (subterms (with_constraints f a)) _ h), counted b (back is_unbegun (subterms (with_constraints f a)) _ h))
    counted (assert c t) h = counted t h
    counted (exist x v t) h = counted t (right_of (is_first v) _ h)
    counted (catch z t b) h = (counted t (front is_unbegun (subterms (with_constraints f t)) _ h), counted b (back is_unbegun (subterms (with_constraints f t)) _ h))
    counted (try t b) h = (counted t (front is_unbegun (subterms (with_constraints f t)) _ h), counted b (back is_unbegun (subterms (with_constraints f t)) _ h))

    each_counted : (cs : Choices C) → IsTrue (list_all is_unbegun (subterms_of_each (choices_with_constraints f cs))) → AreDoneTo k cs
    each_counted no_choice h = tt
    each_counted (choice w t cs) h = (counted t (front is_unbegun (subterms (with_constraints f t)) _ h), each_counted cs (back is_unbegun (subterms (with_constraints f t)) _ h))

-- each number of a list that is made of two
pass_front : {C : Type 0} (at : Process C → List ℕ) (p : ℕ → Bool) (xs ys : List (Process C)) → IsTrue (list_all p (flat_map at (xs ++ ys))) → IsTrue (list_all p (flat_map at xs))
pass_front at p xs ys h = front p (flat_map at xs) (flat_map at ys) (sym (ap (list_all p) (flat_map-append at xs ys)) ∙ h)

pass_back : {C : Type 0} (at : Process C → List ℕ) (p : ℕ → Bool) (xs ys : List (Process C)) → IsTrue (list_all p (flat_map at (xs ++ ys))) → IsTrue (list_all p (flat_map at ys))
pass_back at p xs ys h = back p (flat_map at xs) (flat_map at ys) (sym (ap (list_all p) (flat_map-append at xs ys)) ∙ h)

-- tests of constraints and exceptions alone
abbrev without_scopes : {C : Type 0} → Tests C → Tests C
without_scopes ts = record ts { local = λ x. true; counter = λ i. true }

module _ {C D : Type 0} (f : C → D) (ts : Tests C) where
  -- the numbers of some terms pass
  abbrev Locals : List (Process D) → Type 0
  Locals xs = IsTrue (list_all ts.local (flat_map local_at xs))

  abbrev Counters : List (Process D) → Type 0
  Counters xs = IsTrue (list_all ts.counter (flat_map counter_at xs))

  -- both parts of a term pass
  two_pass : (a b : Bool) (s : List (Process D)) (r : List (Process D)) (x y : Bool) → (IsTrue a → Locals s → Counters s → IsTrue x) → (IsTrue b → Locals r → Counters r → IsTrue y)
      → IsTrue (a && b) → Locals (s ++ r) → Counters (s ++ r) → IsTrue (x && y)
  two_pass a b s r x y g h k ls cs =
      both x y (g (left_of a b k) (pass_front local_at ts.local s r ls) (pass_front counter_at ts.counter s r cs)) (h (right_of a b k) (pass_back local_at ts.local s r ls) (pass_back counter_at ts.counter s r cs))

  mutual
    all_pass : (p : Process C) → IsTrue (passes (without_scopes ts) p) → Locals (subterms (with_constraints f p)) → Counters (subterms (with_constraints f p)) → IsTrue (passes ts p)
    all_pass eps h ls cs = refl
    all_pass dead h ls cs = refl
    all_pass (con c) h ls cs = h
    all_pass (raise z) h ls cs = h
    all_pass (seq a b) h ls cs = two_pass _ _ (subterms (with_constraints f a)) (subterms (with_constraints f b)) _ _ (all_pass a) (all_pass b) h ls cs
    all_pass (loop t) h ls cs = all_pass t h ls cs
    all_pass (count i done t) h ls cs = both (ts.counter i) _ (left_of (ts.counter i) _ cs) (all_pass t h ls (right_of (ts.counter i) _ cs))
    all_pass (any ps) h ls cs = each_all_pass ps h ls cs
    all_pass (pri a b) h ls cs = two_pass _ _ (subterms (with_constraints f a)) (subterms (with_constraints f b)) _ _ (all_pass a) (all_pass b) h ls cs
    all_pass (par a b) h ls cs = two_pass _ _ (subterms (with_constraints f a)) (subterms (with_constraints f b)) _ _ (all_pass a) (all_pass b) h ls cs
    all_pass (assert c t) h ls cs = both (ts.constraint c) _ (left_of (ts.constraint c) _ h) (all_pass t (right_of (ts.constraint c) _ h) ls cs)
    all_pass (exist x v t) h ls cs = both (ts.local x) _ (left_of (ts.local x) _ ls) (all_pass t h (right_of (ts.local x) _ ls) cs)
    all_pass (catch z t b) h ls cs =
        both (ts.exception z) _ (left_of (ts.exception z) _ h)
        (two_pass _ _ (subterms (with_constraints f t)) (subterms (with_constraints f b)) _ _ (all_pass t) (all_pass b) (right_of (ts.exception z) _ h) ls cs)
    all_pass (try t b) h ls cs = two_pass _ _ (subterms (with_constraints f t)) (subterms (with_constraints f b)) _ _ (all_pass t) (all_pass b) h ls cs

    each_all_pass : (ps : Choices C) → IsTrue (each_passes (without_scopes ts) ps) → Locals (subterms_of_each (choices_with_constraints f ps)) → Counters (subterms_of_each (choices_with_constraints f ps)) → IsTrue (each_passes ts ps)
    each_all_pass no_choice h ls cs = refl
    each_all_pass (choice w t ps) h ls cs =
        both (ts.constraint w) _ (left_of (ts.constraint w) _ h)
        (two_pass _ _ (subterms (with_constraints f t)) (subterms_of_each (choices_with_constraints f ps)) _ _ (all_pass t) (each_all_pass ps) (right_of (ts.constraint w) _ h) ls cs)

-- numbers that follow one another are below their end
all_below : (i n end : ℕ) → i + n ≤ end → IsTrue (list_all (λ k. nat_lt k end) (numbers_from i n))
all_below i zero end h = refl
all_below i (suc n) end h = both (nat_lt i end) _ (lt-ltb i end (omega (arith, h))) (all_below (suc i) n end (omega (arith, h)))

numbers_below : (ks : List ℕ) (n : ℕ) → ks ≡ numbers_from 0 n → IsTrue (list_all (λ k. nat_lt k n) ks)
numbers_below ks n e = ap (list_all (λ k. nat_lt k n)) e ∙ all_below 0 n n (omega arith)

-- no counted loop of a body at its start has a turn done
pub body_unbegun : {C D : Type 0} (f : C → D) (k : ℕ) (p : Process C) → IsTrue (is_at_start (with_constraints f p)) → IsDoneTo k p
body_unbegun f k p h = counted f k p h

pub body_counted : {C D : Type 0} (f : C → D) (p : Process C) → IsTrue (is_at_start (with_constraints f p)) → IsCounted p
body_counted f p h = counted f _ p h

-- the numbers of a body are those of its scenario
pub body_passes : {D : Type 0} (f : ℕ → D) (p : Process ℕ) (expressions exceptions locals counters : ℕ) → IsTrue (is_within expressions exceptions p)
    → locals_in (with_constraints f p) ≡ numbers_from 0 locals → counters_in (with_constraints f p) ≡ numbers_from 0 counters → IsTrue (passes (below expressions exceptions locals counters) p)
body_passes f p expressions exceptions locals counters h ls cs = all_pass f (below expressions exceptions locals counters) p h (numbers_below _ locals ls) (numbers_below _ counters cs)

pub ruleset bodies = (body_passes, body_counted, body_unbegun)
