-- Room that is left.
use Rattle.std.proofs.Common.{◌≡◌, ◌≢◌, ◌≤◌, ℕ, zero, suc, ◌+◌, List, [], length, refl, ap, sym, subst, arith}
use Rattle.std.specs.Prelude.{vec_capacity}
use Rattle.lt_term.specs.Process.{Process, eps, dead, con, raise, seq, loop, count, any, pri, par, assert, exist, catch, try}
use Rattle.lt_term.specs.Tree.{Weight, Tree, no_branch, branch, nothing}
use Rattle.lt_marks.specs.Path.{at_leaf, at_branch}
use Rattle.lt_marks.specs.View.{nodes}
use Rattle.lt_marks.specs.Walk.{capacities, HasRoom, IsRoomy}
use Rattle.lt_marks.specs.declared.walk.Walk.{Walk}

pub nodes_positive : (p : Process ℕ) → 1 ≤ nodes p
nodes_positive eps = omega arith
nodes_positive dead = omega arith
nodes_positive (con c) = omega arith
nodes_positive (raise z) = omega arith
nodes_positive (seq a b) = omega arith
nodes_positive (loop t) = omega arith
nodes_positive (count i d t) = omega arith
nodes_positive (any cs) = omega arith
nodes_positive (pri a b) = omega arith
nodes_positive (par a b) = omega arith
nodes_positive (assert c t) = omega arith
nodes_positive (exist x v t) = omega arith
nodes_positive (catch z t h) = omega arith
nodes_positive (try t h) = omega arith

-- room for a part, once no more than choices were taken
pub room_same : (n m : ℕ) (w v : Walk) → n ≤ m → v.constraints ≡ w.constraints → v.lasts ≡ w.lasts → v.scope ≡ w.scope → v.weights ≡ w.weights → v.before ≡ w.before → HasRoom m w → HasRoom n v
room_same n m w v l a b c d x h = record {
  constraints = subst (λ u. length u.items + n ≤ vec_capacity u) (sym a) (omega (arith, l, h.constraints));
  lasts = subst (λ u. length u.items + n ≤ vec_capacity u) (sym b) (omega (arith, l, h.lasts));
  scope = subst (λ u. length u.items + n ≤ vec_capacity u) (sym c) (omega (arith, l, h.scope));
  weights = subst (λ u. n ≤ vec_capacity u) (sym d) (omega (arith, l, h.weights));
  before = subst (λ u. n ≤ vec_capacity u) (sym x) (omega (arith, l, h.before));
}

-- room for a part, once a constraint was met
pub room_met : (n m : ℕ) (w v : Walk) → suc n ≤ m → length v.constraints.items ≡ length w.constraints.items + 1 → v.lasts ≡ w.lasts → v.scope ≡ w.scope → v.weights ≡ w.weights → capacities v ≡ capacities w → HasRoom m w → HasRoom n v
room_met n m w v l a b c d e h = record {
  constraints = (let k : vec_capacity v.constraints ≡ vec_capacity w.constraints = ap (λ r. r.constraints) e in omega (arith, l, a, k, h.constraints));
  lasts = subst (λ u. length u.items + n ≤ vec_capacity u) (sym b) (omega (arith, l, h.lasts));
  scope = subst (λ u. length u.items + n ≤ vec_capacity u) (sym c) (omega (arith, l, h.scope));
  weights = subst (λ u. n ≤ vec_capacity u) (sym d) (omega (arith, l, h.weights));
  before = (let k : vec_capacity v.before ≡ vec_capacity w.before = ap (λ r. r.before) e in omega (arith, l, k, h.before));
}

-- room for a part, once a scope was entered
pub room_opened : (n m : ℕ) (w v : Walk) → suc n ≤ m → length v.lasts.items ≡ length w.lasts.items + 1 → length v.scope.items ≡ length w.scope.items + 1 → v.constraints ≡ w.constraints → v.weights ≡ w.weights → capacities v ≡ capacities w → HasRoom m w → HasRoom n v
room_opened n m w v l a b c d e h = record {
  constraints = subst (λ u. length u.items + n ≤ vec_capacity u) (sym c) (omega (arith, l, h.constraints));
  lasts = (let k : vec_capacity v.lasts ≡ vec_capacity w.lasts = ap (λ r. r.lasts) e in omega (arith, l, a, k, h.lasts));
  scope = (let k : vec_capacity v.scope ≡ vec_capacity w.scope = ap (λ r. r.scope) e in omega (arith, l, b, k, h.scope));
  weights = subst (λ u. n ≤ vec_capacity u) (sym d) (omega (arith, l, h.weights));
  before = (let k : vec_capacity v.before ≡ vec_capacity w.before = ap (λ r. r.before) e in omega (arith, l, k, h.before));
}

-- there are two ways out of a counted loop
pub beyond_two : {C N : Type 0} (x y : Weight C) (t u : Tree C N) (k : ℕ) (ks : List ℕ) → k ≢ 0 → k ≢ 1 → at_branch (branch x t (branch y u no_branch)) k ks ≡ at_leaf nothing ks
beyond_two x y t u zero ks n o = absurd (n refl)
beyond_two x y t u (suc zero) ks n o = absurd (o refl)
beyond_two x y t u (suc (suc k)) ks n o = refl

-- room for a term, where a walk has just set out
pub room_at_start : (n : ℕ) (w v : Walk) → v.constraints.items ≡ [] → v.lasts.items ≡ [] → v.scope.items ≡ [] → capacities v ≡ capacities w → IsRoomy n w → HasRoom n v
room_at_start n w v a b c e h =
    let f : length v.constraints.items ≡ 0 = ap length a in
    let l : length v.lasts.items ≡ 0 = ap length b in
    let s : length v.scope.items ≡ 0 = ap length c in
    let i : vec_capacity v.constraints ≡ vec_capacity w.constraints = ap (λ r. r.constraints) e in
    let j : vec_capacity v.lasts ≡ vec_capacity w.lasts = ap (λ r. r.lasts) e in
    let k : vec_capacity v.scope ≡ vec_capacity w.scope = ap (λ r. r.scope) e in
    let m : vec_capacity v.weights ≡ vec_capacity w.weights = ap (λ r. r.weights) e in
    let x : vec_capacity v.before ≡ vec_capacity w.before = ap (λ r. r.before) e in
    record { constraints = omega (arith, f, i, h.constraints); lasts = omega (arith, l, j, h.lasts); scope = omega (arith, s, k, h.scope); weights = omega (arith, m, h.weights); before = omega (arith, x, h.before) }
