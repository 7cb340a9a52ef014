-- A term over a table stays what it is when the table grows.
use Rattle.std.proofs.Common.{◌≡◌, ℕ, ◌<◌, ◌≤◌, true, ◌&&◌, nat_lt, List, length, refl, ap, arith}
use Rattle.std.proofs.lemmas.Bool.Decides.{nat_tests}
use Rattle.lt_formula.specs.Expression.{Expression}
use Rattle.lt_formula.specs.Table.{Keeps, spelled}
use Rattle.lt_term.proofs.Public.{both, left_of, right_of}
use Rattle.lt_term.specs.Process.{Process, eps, dead, con, raise, seq, loop, count, any, pri, par, assert, exist, catch, try, Choices, no_choice, choice, with_constraints, choices_with_constraints}
use Rattle.lt_term.specs.Within.{passes, each_passes}
use Rattle.lt_expand.specs.inner.Put.{among}

below : (c n : ℕ) → nat_lt c n ≡ true → c < n
below c n h = grind (arith, nat_tests)

below_more : (c n m : ℕ) → n ≤ m → nat_lt c n ≡ true → nat_lt c m ≡ true
below_more c n m h g = let l = below c n g in grind (arith, nat_tests)

same_at : (old new : List Expression) (c : ℕ) → Keeps old new → nat_lt c (length old) ≡ true → spelled new c ≡ spelled old c
same_at old new c k h = k.same c (below c (length old) h)

mutual
  pub spelled_kept : (old new : List Expression) (z : ℕ) (p : Process ℕ) → Keeps old new → passes (among (length old) z) p ≡ true → with_constraints (spelled new) p ≡ with_constraints (spelled old) p
  spelled_kept old new z eps k h = refl
  spelled_kept old new z dead k h = refl
  spelled_kept old new z (con c) k h = ap con (same_at old new c k h)
  spelled_kept old new z (raise y) k h = refl
  spelled_kept old new z (seq a b) k h = λ i. seq (spelled_kept old new z a k (left_of _ (passes (among (length old) z) b) h) i) (spelled_kept old new z b k (right_of (passes (among (length old) z) a) _ h) i)
  spelled_kept old new z (loop a) k h = ap loop (spelled_kept old new z a k h)
  spelled_kept old new z (count n done a) k h = ap (count n done) (spelled_kept old new z a k h)
  spelled_kept old new z (any cs) k h = ap any (choices_kept old new z cs k h)
  spelled_kept old new z (pri a b) k h = λ i. pri (spelled_kept old new z a k (left_of _ (passes (among (length old) z) b) h) i) (spelled_kept old new z b k (right_of (passes (among (length old) z) a) _ h) i)
  spelled_kept old new z (par a b) k h = λ i. par (spelled_kept old new z a k (left_of _ (passes (among (length old) z) b) h) i) (spelled_kept old new z b k (right_of (passes (among (length old) z) a) _ h) i)
  spelled_kept old new z (assert c a) k h = λ i. assert (same_at old new c k (left_of _ (passes (among (length old) z) a) h) i) (spelled_kept old new z a k (right_of (nat_lt c (length old)) _ h) i)
  spelled_kept old new z (exist x v a) k h = ap (exist x v) (spelled_kept old new z a k h)
  spelled_kept old new z (catch y a b) k h =
      let two = right_of (nat_lt y z) (passes (among (length old) z) a && passes (among (length old) z) b) h in
      λ i. catch y (spelled_kept old new z a k (left_of _ (passes (among (length old) z) b) two) i) (spelled_kept old new z b k (right_of (passes (among (length old) z) a) _ two) i)
  spelled_kept old new z (try a b) k h = λ i. try (spelled_kept old new z a k (left_of _ (passes (among (length old) z) b) h) i) (spelled_kept old new z b k (right_of (passes (among (length old) z) a) _ h) i)

  pub choices_kept : (old new : List Expression) (z : ℕ) (cs : Choices ℕ) → Keeps old new → each_passes (among (length old) z) cs ≡ true → choices_with_constraints (spelled new) cs ≡ choices_with_constraints (spelled old) cs
  choices_kept old new z no_choice k h = refl
  choices_kept old new z (choice w a cs) k h =
      let rest = right_of (nat_lt w (length old)) (passes (among (length old) z) a && each_passes (among (length old) z) cs) h in
      λ i. choice (same_at old new w k (left_of _ (passes (among (length old) z) a && each_passes (among (length old) z) cs) h) i) (spelled_kept old new z a k (left_of _ (each_passes (among (length old) z) cs) rest) i) (choices_kept old new z cs k (right_of (passes (among (length old) z) a) _ rest) i)

mutual
  pub within_kept : (n m z : ℕ) (p : Process ℕ) → n ≤ m → passes (among n z) p ≡ true → passes (among m z) p ≡ true
  within_kept n m z eps l h = refl
  within_kept n m z dead l h = refl
  within_kept n m z (con c) l h = below_more c n m l h
  within_kept n m z (raise y) l h = h
  within_kept n m z (seq a b) l h = both _ _ (within_kept n m z a l (left_of _ (passes (among n z) b) h)) (within_kept n m z b l (right_of (passes (among n z) a) _ h))
  within_kept n m z (loop a) l h = within_kept n m z a l h
  within_kept n m z (count i done a) l h = within_kept n m z a l h
  within_kept n m z (any cs) l h = each_kept n m z cs l h
  within_kept n m z (pri a b) l h = both _ _ (within_kept n m z a l (left_of _ (passes (among n z) b) h)) (within_kept n m z b l (right_of (passes (among n z) a) _ h))
  within_kept n m z (par a b) l h = both _ _ (within_kept n m z a l (left_of _ (passes (among n z) b) h)) (within_kept n m z b l (right_of (passes (among n z) a) _ h))
  within_kept n m z (assert c a) l h = both _ _ (below_more c n m l (left_of _ (passes (among n z) a) h)) (within_kept n m z a l (right_of (nat_lt c n) _ h))
  within_kept n m z (exist x v a) l h = within_kept n m z a l h
  within_kept n m z (catch y a b) l h =
      let two = right_of (nat_lt y z) (passes (among n z) a && passes (among n z) b) h in
      both _ _ (left_of (nat_lt y z) (passes (among n z) a && passes (among n z) b) h) (both _ _ (within_kept n m z a l (left_of _ (passes (among n z) b) two)) (within_kept n m z b l (right_of (passes (among n z) a) _ two)))
  within_kept n m z (try a b) l h = both _ _ (within_kept n m z a l (left_of _ (passes (among n z) b) h)) (within_kept n m z b l (right_of (passes (among n z) a) _ h))

  pub each_kept : (n m z : ℕ) (cs : Choices ℕ) → n ≤ m → each_passes (among n z) cs ≡ true → each_passes (among m z) cs ≡ true
  each_kept n m z no_choice l h = refl
  each_kept n m z (choice w a cs) l h =
      let rest = right_of (nat_lt w n) (passes (among n z) a && each_passes (among n z) cs) h in
      both _ _ (below_more w n m l (left_of _ (passes (among n z) a && each_passes (among n z) cs) h)) (both _ _ (within_kept n m z a l (left_of _ (each_passes (among n z) cs) rest)) (each_kept n m z cs l (right_of (passes (among n z) a) _ rest)))
