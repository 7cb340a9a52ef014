-- What trees weigh in the place of whose leaves other trees stand.
use Rattle.std.proofs.Common.{◌≡◌, ◌≤◌, ◌<◌, ℕ, suc, ◌+◌, ◌-◌, ◌*◌, Bool, true, false, nat_eq, nat_lt, if◌then◌else◌, List, All, length, refl, ap, sym, ◌∙◌, subst, arith}
use Rattle.std.specs.Prelude.{slice_index_or, slice_set}
use Rattle.std.proofs.lemmas.List.{get_or_default, get_or_past, get_or-set_same, get_or-set_other, set-get_or, set-set}
use Rattle.std.proofs.lemmas.Bool.{eqb-true, eqb-false, ltb-true, ltb-false}
use Rattle.lt_term.specs.Offers.{TermTree, in_turn}
use Rattle.lt_term.specs.Process.{Process}
use Rattle.lt_term.specs.Size.{Weights, each_one, leaf_weight, tree_weight, branches_weight, capped, with_raise}
use Rattle.lt_term.specs.Tree.{Leaf, vanish, nothing, raised, go, Tree, leaf, ordered, weighted, Branches, no_branch, branch, with_leaves}
use Rattle.lt_tree_size.specs.Tally.{just_vanish, just_go, just_raise, nodes, vanishes, goes, raises}
use Rattle.lt_tree_size.proofs.Public.{added, seq_weight}
use Rattle.lt_walk.specs.inner.Context.{IsContext}

-- what leaves weigh, but for exceptions from this one on, which weigh 1
abbrev pub up_to : ℕ → Weights → Weights
up_to i w = record w { raise = λ z. if nat_lt z i then w.raise z else 1 }

-- weights that say the same of each leaf
module _ {C N : Type 0} (w v : Weights) (o : v.other ≡ w.other) (e : (l : Leaf C N) → leaf_weight v l ≡ leaf_weight w l) where
  mutual
    alike : (t : Tree C N) → tree_weight v t ≡ tree_weight w t
    alike (leaf l) = e l
    alike (ordered a b) = λ i. o i + (alike a i + alike b i)
    alike (weighted ls bs) = λ i. o i + alike_each bs i

    alike_each : (bs : Branches C N) → branches_weight v bs ≡ branches_weight w bs
    alike_each no_branch = refl
    alike_each (branch x t bs) = λ i. alike t i + alike_each bs i

below_none : (z n : ℕ) → (if nat_lt z 0 then n else 1) ≡ 1
below_none z n = test (nat_lt z 0) refl
  where
    test : (b : Bool) → nat_lt z 0 ≡ b → (if b then n else 1) ≡ 1
    test true e = absurd (let l = ltb-true z 0 e in omega (arith, l))
    test false e = refl

one_more : (w : Weights) (i z : ℕ) → 1 ≤ w.raise i → (if nat_lt z (suc i) then w.raise z else 1) ≡ (if nat_lt z i then w.raise z else 1) + (if nat_eq z i then 1 else 0) * (w.raise i - 1)
one_more w i z p = test (nat_lt z (suc i)) (nat_lt z i) (nat_eq z i) refl refl refl
  where
    test : (a b d : Bool) → nat_lt z (suc i) ≡ a → nat_lt z i ≡ b → nat_eq z i ≡ d → (if a then w.raise z else 1) ≡ (if b then w.raise z else 1) + (if d then 1 else 0) * (w.raise i - 1)
    test true true true e f g = absurd (let l = ltb-true z i f in let m = eqb-true z i g in omega (arith, l, m))
    test true true false e f g = omega arith
    test true false true e f g = let h : w.raise z ≡ w.raise i = ap w.raise (eqb-true z i g) in omega (arith, h, p)
    test true false false e f g = absurd (let l = ltb-true z (suc i) e in let m = ltb-false z i f in let d : z ≡ i = omega (arith, l, m) in eqb-false z i g d)
    test false true d e f g = absurd (let l = ltb-false z (suc i) e in let m = ltb-true z i f in omega (arith, l, m))
    test false false true e f g = absurd (let l = ltb-false z (suc i) e in let m = eqb-true z i g in omega (arith, l, m))
    test false false false e f g = omega arith

all_below : (w : Weights) (n z : ℕ) → (n ≤ z → w.raise z ≡ 1) → (if nat_lt z n then w.raise z else 1) ≡ w.raise z
all_below w n z h = test (nat_lt z n) refl
  where
    test : (b : Bool) → nat_lt z n ≡ b → (if b then w.raise z else 1) ≡ w.raise z
    test true e = refl
    test false e = sym (h (ltb-false z n e))

module _ {C N : Type 0} where
  -- leaves alone that vanish have another weight than 1
  pub with_vanish : (x : ℕ) → 1 ≤ x → (t : Tree C N) → tree_weight (record each_one { vanish = x }) t ≡ nodes t + vanishes t * (x - 1)
  with_vanish x p t = added each_one (record each_one { vanish = x }) just_vanish (x - 1) (omega arith) at t
    where
      at : (l : Leaf C N) → leaf_weight (record each_one { vanish = x }) l ≡ leaf_weight each_one l + leaf_weight just_vanish l * (x - 1)
      at vanish = omega (arith, p)
      at nothing = omega arith
      at (raised z) = omega arith
      at (go cs ls n) = omega arith

  -- and those that go on
  pub with_both : (x y : ℕ) → 1 ≤ y → (t : Tree C N) → tree_weight (record each_one { vanish = x; go = y }) t ≡ tree_weight (record each_one { vanish = x }) t + goes t * (y - 1)
  with_both x y p t = added (record each_one { vanish = x }) (record each_one { vanish = x; go = y }) just_go (y - 1) (omega arith) at t
    where
      at : (l : Leaf C N) → leaf_weight (record each_one { vanish = x; go = y }) l ≡ leaf_weight (record each_one { vanish = x }) l + leaf_weight just_go l * (y - 1)
      at vanish = omega arith
      at nothing = omega arith
      at (raised z) = omega arith
      at (go cs ls n) = omega (arith, p)

  -- no exception yet
  up_to_none : (w : Weights) → w.other ≡ 1 → (t : Tree C N) → tree_weight (up_to 0 w) t ≡ tree_weight (record each_one { vanish = w.vanish; go = w.go }) t
  up_to_none w o t = alike (record each_one { vanish = w.vanish; go = w.go }) (up_to 0 w) o at t
    where
      at : (l : Leaf C N) → leaf_weight (up_to 0 w) l ≡ leaf_weight (record each_one { vanish = w.vanish; go = w.go }) l
      at vanish = refl
      at nothing = o
      at (raised z) = below_none z (w.raise z)
      at (go cs ls n) = refl

  pub up_to_first : (w : Weights) → w.other ≡ 1 → 1 ≤ w.vanish → 1 ≤ w.go → (t : Tree C N) → tree_weight (up_to 0 w) t ≡ nodes t + vanishes t * (w.vanish - 1) + goes t * (w.go - 1)
  up_to_first w o p q t = up_to_none w o t ∙ with_both w.vanish w.go q t ∙ ap (λ n. n + goes t * (w.go - 1)) (with_vanish w.vanish p t)

  -- one more exception
  pub up_to_more : (w : Weights) (i : ℕ) → 1 ≤ w.raise i → (t : Tree C N) → tree_weight (up_to (suc i) w) t ≡ tree_weight (up_to i w) t + raises i t * (w.raise i - 1)
  up_to_more w i p t = added (up_to i w) (up_to (suc i) w) (just_raise i) (w.raise i - 1) (omega arith) at t
    where
      at : (l : Leaf C N) → leaf_weight (up_to (suc i) w) l ≡ leaf_weight (up_to i w) l + leaf_weight (just_raise i) l * (w.raise i - 1)
      at vanish = omega arith
      at nothing = omega arith
      at (raised z) = one_more w i z p
      at (go cs ls n) = omega arith

  -- all exceptions
  pub up_to_all : (w : Weights) (n : ℕ) → ((z : ℕ) → n ≤ z → w.raise z ≡ 1) → (t : Tree C N) → tree_weight (up_to n w) t ≡ tree_weight w t
  up_to_all w n h t = alike w (up_to n w) refl at t
    where
      at : (l : Leaf C N) → leaf_weight (up_to n w) l ≡ leaf_weight w l
      at vanish = refl
      at nothing = refl
      at (raised z) = all_below w n z (h z)
      at (go cs ls m) = refl

  module _ (w : Weights) (o : 1 ≤ w.other) (v : 1 ≤ w.vanish) (g : 1 ≤ w.go) (r : (z : ℕ) → 1 ≤ w.raise z) where
    -- where no leaf weighs nothing, no tree does
    pub some_weight : (t : Tree C N) → 1 ≤ tree_weight w t
    some_weight (leaf vanish) = v
    some_weight (leaf nothing) = o
    some_weight (leaf (raised z)) = r z
    some_weight (leaf (go cs ls n)) = g
    some_weight (ordered a b) = omega (arith, o)
    some_weight (weighted ls bs) = omega (arith, o)

-- a tree has a node
pub some_nodes : {C N : Type 0} (t : Tree C N) → 1 ≤ nodes t
some_nodes t = some_weight each_one (omega arith) (omega arith) (omega arith) (λ z. omega arith) t

some_by : (b : Bool) (m y : ℕ) → 1 ≤ m → 1 ≤ y → 1 ≤ (if b then m else y)
some_by true m y h k = h
some_by false m y h k = k

some_up_to : (w : Weights) (i z : ℕ) → 1 ≤ w.raise z → 1 ≤ (if nat_lt z i then w.raise z else 1)
some_up_to w i z h = some_by (nat_lt z i) (w.raise z) 1 h (omega arith)

-- what leaves weigh that raise an exception, as it is read
pub context_at : (x y : ℕ) (zs : List ℕ) (w : Weights) → IsContext x y zs w → (z : ℕ) → z < length zs → slice_index_or zs z 0 ≡ capped (w.raise z)
context_at x y zs w k z l = get_or_default zs z 0 1 l ∙ k.raise z

-- exceptions beyond those that are known weigh 1
pub context_beyond : (x y : ℕ) (zs : List ℕ) (w : Weights) → IsContext x y zs w → (z : ℕ) → length zs ≤ z → w.raise z ≡ 1
context_beyond x y zs w k z l =
    let e : 1 ≡ capped (w.raise z) = sym (get_or_past zs z 1 l) ∙ k.raise z in
    let s = k.some_raise z in
    omega (arith, e, s)

-- a tree weighs something
context_some : {C N : Type 0} (x y : ℕ) (zs : List ℕ) (w : Weights) → IsContext x y zs w → (t : Tree C N) → 1 ≤ tree_weight w t
context_some x y zs w k t = some_weight w (let o = k.other in omega (arith, o)) k.some_vanish k.some_go k.some_raise t

pub context_up_to : {C N : Type 0} (x y : ℕ) (zs : List ℕ) (w : Weights) → IsContext x y zs w → (i : ℕ) (t : Tree C N) → 1 ≤ tree_weight (up_to i w) t
context_up_to x y zs w k i t = some_weight (up_to i w) (let o = k.other in omega (arith, o)) k.some_vanish k.some_go (λ z. some_up_to w i z (k.some_raise z)) t

-- other weights for what vanishes and for what goes on
context_with : (x y p q : ℕ) (zs : List ℕ) (w : Weights) (m n : ℕ) → IsContext x y zs w → p ≡ capped m → 1 ≤ m → q ≡ capped n → 1 ≤ n → IsContext p q zs (record w { vanish = m; go = n })
context_with x y p q zs w m n k e s d r = record {
  other = k.other;
  vanish = e;
  go = d;
  raise = k.raise;
  some_vanish = s;
  some_go = r;
  some_raise = k.some_raise;
}

context_vanish : (x y p : ℕ) (zs : List ℕ) (w : Weights) (m : ℕ) → IsContext x y zs w → p ≡ capped m → 1 ≤ m → IsContext p y zs (record w { vanish = m })
context_vanish x y p zs w m k e s = context_with x y p y zs w m w.go k e s k.go k.some_go

-- behind a first part what vanishes weighs as the tree of the second one
abbrev pub behind_weights : Weights → TermTree ℕ → Weights
behind_weights w u = record w { vanish = tree_weight w u }

pub context_behind : (x y p : ℕ) (zs : List ℕ) (w : Weights) (u : TermTree ℕ) → IsContext x y zs w → p ≡ capped (tree_weight w u) → IsContext p y zs (behind_weights w u)
context_behind x y p zs w u k e = context_vanish x y p zs w (tree_weight w u) k e (context_some x y zs w k u)

-- beside an instant of a first side what vanishes weighs as what goes on
abbrev pub beside_weights : Weights → Weights
beside_weights w = record w { vanish = w.go }

pub context_beside : (x y : ℕ) (zs : List ℕ) (w : Weights) → IsContext x y zs w → IsContext y y zs (beside_weights w)
context_beside x y zs w k = context_vanish x y y zs w w.go k k.go k.some_go

-- in a first side what vanishes and what goes on weighs as the tree of the second one
abbrev pub besides : Weights → TermTree ℕ → Weights
besides w u = record w { vanish = tree_weight w u; go = tree_weight (beside_weights w) u }

pub context_besides : (x y p q : ℕ) (zs : List ℕ) (w : Weights) (u : TermTree ℕ) → IsContext x y zs w → p ≡ capped (tree_weight w u) → q ≡ capped (tree_weight (beside_weights w) u) → IsContext p q zs (besides w u)
context_besides x y p q zs w u k e d = context_with x y p q zs w (tree_weight w u) (tree_weight (beside_weights w) u) k e (context_some x y zs w k u) d (context_some y y zs (beside_weights w) (context_beside x y zs w k) u)

-- the same weights again
pub context_again : (x y : ℕ) (zs ys : List ℕ) (w : Weights) → ys ≡ zs → IsContext x y zs w → IsContext x y ys w
context_again x y zs ys w e k = subst (λ l. IsContext x y l w) (sym e) k

-- in the turn of a loop what vanishes weighs as a leaf of nothing
abbrev pub in_turn_weights : Weights → Weights
in_turn_weights w = record w { vanish = w.other }

pub context_turn : (x y : ℕ) (zs : List ℕ) (w : Weights) → IsContext x y zs w → IsContext 1 y zs (in_turn_weights w)
context_turn x y zs w k = let o = k.other in context_vanish x y 1 zs w w.other k (ap capped (sym o)) (omega (arith, o))

pub turn_weight : (w : Weights) (b : Process ℕ) (t : TermTree ℕ) → tree_weight w (with_leaves (in_turn b) t) ≡ tree_weight (in_turn_weights w) t
turn_weight w b t = seq_weight b (leaf nothing) w t

-- a written list
written : (zs : List ℕ) (z n y : ℕ) → z < length zs → slice_index_or (slice_set zs z n) y 1 ≡ (if nat_eq y z then n else slice_index_or zs y 1)
written zs z n y l = test (nat_eq y z) refl
  where
    test : (b : Bool) → nat_eq y z ≡ b → slice_index_or (slice_set zs z n) y 1 ≡ (if b then n else slice_index_or zs y 1)
    test true e = ap (λ i. slice_index_or (slice_set zs z n) i 1) (eqb-true y z e) ∙ get_or-set_same zs z n 1 l
    test false e = get_or-set_other zs z y n 1 (eqb-false y z e)

capped_by : (b : Bool) (n m x y : ℕ) → n ≡ capped m → x ≡ capped y → (if b then n else x) ≡ capped (if b then m else y)
capped_by true n m x y e d = e
capped_by false n m x y e d = d

-- another weight for an exception
context_raise : (x y : ℕ) (zs : List ℕ) (w : Weights) (z n m : ℕ) → z < length zs → IsContext x y zs w → n ≡ capped m → 1 ≤ m → IsContext x y (slice_set zs z n) (with_raise w z m)
context_raise x y zs w z n m l k e s = record {
  other = k.other;
  vanish = k.vanish;
  go = k.go;
  raise = λ i. written zs z n i l ∙ capped_by (nat_eq i z) n m (slice_index_or zs i 1) (w.raise i) e (k.raise i);
  some_vanish = k.some_vanish;
  some_go = k.some_go;
  some_raise = λ i. some_by (nat_eq i z) m (w.raise i) s (k.some_raise i);
}

-- in a part with a handler an exception weighs as the tree of the handler
abbrev pub handled_weights : Weights → ℕ → TermTree ℕ → Weights
handled_weights w z u = with_raise w z (tree_weight w u)

pub context_handled : (x y : ℕ) (zs : List ℕ) (w : Weights) (z n : ℕ) (u : TermTree ℕ) → z < length zs → IsContext x y zs w → n ≡ capped (tree_weight w u) → IsContext x y (slice_set zs z n) (handled_weights w z u)
context_handled x y zs w z n u l k e = context_raise x y zs w z n (tree_weight w u) l k e (context_some x y zs w k u)

-- a weight that is put back
pub put_back : (zs ys : List ℕ) (z n : ℕ) → ys ≡ slice_set zs z n → slice_set ys z (slice_index_or zs z 0) ≡ zs
put_back zs ys z n e = ap (λ l. slice_set l z (slice_index_or zs z 0)) e ∙ set-set zs z n (slice_index_or zs z 0) ∙ set-get_or zs z 0

ones_at : (zs : List ℕ) (z : ℕ) → All (λ n. n ≡ 1) zs → slice_index_or zs z 1 ≡ 1
ones_at zs z h = test (nat_lt z (length zs)) refl
  where
    test : (b : Bool) → nat_lt z (length zs) ≡ b → slice_index_or zs z 1 ≡ 1
    test true e = h z 1 (ltb-true z (length zs) e)
    test false e = get_or_past zs z 1 (ltb-false z (length zs) e)

-- at the root each leaf weighs 1
pub context_root : (zs : List ℕ) → All (λ n. n ≡ 1) zs → IsContext 1 1 zs each_one
context_root zs h = record {
  other = refl;
  vanish = refl;
  go = refl;
  raise = λ z. ones_at zs z h;
  some_vanish = omega arith;
  some_go = omega arith;
  some_raise = λ z. omega arith;
}
