-- Terms have few nodes: at most three for each term that stands in them.
use Rattle.std.proofs.Common.{◌≤◌, ℕ, suc, ◌+◌, ◌*◌, length, length-append, arith}
use Rattle.lt_term.specs.Process.{Process, eps, dead, con, raise, seq, loop, count, any, pri, par, assert, exist, catch, try, Choices, no_choice, choice, with_constraints, choices_with_constraints}
use Rattle.lt_term.specs.Subterms.{subterms, subterms_of_each}
use Rattle.lt_marks.specs.View.{nodes, nodes_of_each}

module _ {C D : Type 0} (f : C → D) where
  -- how many terms stand in a term
  abbrev terms : Process C → ℕ
  terms p = length (subterms (with_constraints f p))

  abbrev terms_of_each : Choices C → ℕ
  terms_of_each cs = length (subterms_of_each (choices_with_constraints f cs))

  mutual
    -- An alternative is counted for one more, and so the nodes of a term are one less.
    few : (p : Process C) → suc (nodes p) ≤ 3 * terms p
    few eps = omega arith
    few dead = omega arith
    few (con c) = omega arith
    few (raise z) = omega arith
    few (seq a b) = omega (arith, few a, few b, length-append (subterms (with_constraints f a)) (subterms (with_constraints f b)))
    few (loop t) = omega (arith, few t)
    few (count i done t) = omega (arith, few t)
    few (any cs) = omega (arith, each_few cs)
    few (pri a b) = omega (arith, few a, few b, length-append (subterms (with_constraints f a)) (subterms (with_constraints f b)))
    few (par a b) = omega (arith, few a, few b, length-append (subterms (with_constraints f a)) (subterms (with_constraints f b)))
    few (assert c t) = omega (arith, few t)
    few (exist x v t) = omega (arith, few t)
    few (catch z t b) = omega (arith, few t, few b, length-append (subterms (with_constraints f t)) (subterms (with_constraints f b)))
    few (try t b) = omega (arith, few t, few b, length-append (subterms (with_constraints f t)) (subterms (with_constraints f b)))

    each_few : (cs : Choices C) → nodes_of_each cs ≤ suc (3 * terms_of_each cs)
    each_few no_choice = omega arith
    each_few (choice w t cs) = omega (arith, few t, each_few cs, length-append (subterms (with_constraints f t)) (subterms_of_each (choices_with_constraints f cs)))

-- a body of few terms has few nodes
pub body_few : {C D : Type 0} (f : C → D) (p : Process C) (others most : ℕ) → length (subterms (with_constraints f p)) + others ≤ most → nodes p ≤ 3 * most
body_few f p others most h = omega (arith, few f p, h)
