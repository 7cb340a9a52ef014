-- Turns that are done, tested.
use Rattle.std.proofs.Common.{IsTrue, refl}
use Rattle.std.proofs.lemmas.Bool.{leb-true, le-leb}
use Rattle.lt_formula.specs.Limits.{most_turns}
use Rattle.lt_term.specs.Counted.{AreCounted, IsCounted}
use Rattle.lt_term.specs.Process.{Process, eps, dead, con, raise, seq, loop, count, any, pri, par, assert, exist, catch, try, Choices, no_choice, choice}
use Rattle.lt_term.specs.inner.Linked.{are_counted, is_counted}
use Rattle.lt_term.proofs.Tests.{both, left_of, right_of}

mutual
  -- what is counted passes the test
  pub counted-passes : {C : Type 0} (p : Process C) → IsCounted p → IsTrue (is_counted p)
  counted-passes eps h = refl
  counted-passes dead h = refl
  counted-passes (con c) h = refl
  counted-passes (raise z) h = refl
  counted-passes (seq a b) h = both (is_counted a) (is_counted b) (counted-passes a h.0) (counted-passes b h.1)
  counted-passes (loop t) h = counted-passes t h
  counted-passes (count i done t) h = both _ (is_counted t) (le-leb done most_turns h.0) (counted-passes t h.1)
  counted-passes (any cs) h = counted_each-passes cs h
  counted-passes (pri a b) h = both (is_counted a) (is_counted b) (counted-passes a h.0) (counted-passes b h.1)
  counted-passes (par a b) h = both (is_counted a) (is_counted b) (counted-passes a h.0) (counted-passes b h.1)
  counted-passes (assert c t) h = counted-passes t h
  counted-passes (exist x v t) h = counted-passes t h
  counted-passes (catch z t k) h = both (is_counted t) (is_counted k) (counted-passes t h.0) (counted-passes k h.1)
  counted-passes (try t k) h = both (is_counted t) (is_counted k) (counted-passes t h.0) (counted-passes k h.1)

  counted_each-passes : {C : Type 0} (cs : Choices C) → AreCounted cs → IsTrue (are_counted cs)
  counted_each-passes no_choice h = refl
  counted_each-passes (choice w t cs) h = both (is_counted t) (are_counted cs) (counted-passes t h.0) (counted_each-passes cs h.1)

mutual
  -- what passes the test is counted
  pub passes-counted : {C : Type 0} (p : Process C) → IsTrue (is_counted p) → IsCounted p
  passes-counted eps h = tt
  passes-counted dead h = tt
  passes-counted (con c) h = tt
  passes-counted (raise z) h = tt
  passes-counted (seq a b) h = (passes-counted a (left_of (is_counted a) _ h), passes-counted b (right_of (is_counted a) _ h))
  passes-counted (loop t) h = passes-counted t h
  passes-counted (count i done t) h = (leb-true done most_turns (left_of _ (is_counted t) h), passes-counted t (right_of _ (is_counted t) h))
  passes-counted (any cs) h = passes-counted_each cs h
  passes-counted (pri a b) h = (passes-counted a (left_of (is_counted a) _ h), passes-counted b (right_of (is_counted a) _ h))
  passes-counted (par a b) h = (passes-counted a (left_of (is_counted a) _ h), passes-counted b (right_of (is_counted a) _ h))
  passes-counted (assert c t) h = passes-counted t h
  passes-counted (exist x v t) h = passes-counted t h
  passes-counted (catch z t k) h = (passes-counted t (left_of (is_counted t) _ h), passes-counted k (right_of (is_counted t) _ h))
  passes-counted (try t k) h = (passes-counted t (left_of (is_counted t) _ h), passes-counted k (right_of (is_counted t) _ h))

  passes-counted_each : {C : Type 0} (cs : Choices C) → IsTrue (are_counted cs) → AreCounted cs
  passes-counted_each no_choice h = tt
  passes-counted_each (choice w t cs) h = (passes-counted t (left_of (is_counted t) _ h), passes-counted_each cs (right_of (is_counted t) _ h))
