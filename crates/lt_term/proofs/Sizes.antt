-- What trees weigh.
use Rattle.std.proofs.Common.{◌≡◌, ℕ, suc, ◌+◌, Bool, true, false, nat_eq, if◌then◌else◌, List, length, refl, ap, sym, ◌∙◌, arith, length-append}
use Rattle.lt_term.specs.declared.last.Last.{Last}
use Rattle.lt_term.specs.Process.{Process, eps, dead, con, raise, seq, loop, count, any, pri, par, assert, exist, catch, try, Choices, no_choice, choice}
use Rattle.lt_num.specs.declared.kind.Kind.{Kind}
use Rattle.lt_num.specs.declared.value.Value.{Value}
use Rattle.lt_term.specs.Tree.{Lasts, Leaf, vanish, nothing, raised, go, Tree, leaf, ordered, weighted, Branches, no_branch, branch, with_leaves, branches_with_leaves, with_local, branches_with_local, flattened, flattened_each}
use Rattle.lt_term.specs.Offers.{TermLeaf, TermTree, start_of, in_seq, in_turn, joined, in_par, in_assert, in_exist, in_catch, in_try, offers_of, offers_of_each}
use Rattle.lt_term.specs.Size.{Weights, each_one, leaf_weight, tree_weight, branches_weight, with_raise, weight_of, weight_of_each, SizeIsWeight}

module _ {C N M : Type 0} (w v : Weights) (f : Leaf C N → Tree C M) (e : (l : Leaf C N) → tree_weight w (f l) ≡ leaf_weight v l) (o : w.other ≡ v.other) where
  mutual
    -- where leaves weigh what is put in their place
    with_leaves-weight : (t : Tree C N) → tree_weight w (with_leaves f t) ≡ tree_weight v t
    with_leaves-weight (leaf l) = e l
    with_leaves-weight (ordered a b) = λ i. o i + (with_leaves-weight a i + with_leaves-weight b i)
    with_leaves-weight (weighted ls bs) = λ i. o i + branches-weight bs i

    branches-weight : (bs : Branches C N) → branches_weight w (branches_with_leaves f bs) ≡ branches_weight v bs
    branches-weight no_branch = refl
    branches-weight (branch x t bs) = λ i. with_leaves-weight t i + branches-weight bs i

mutual
  with_local-weight : {C N : Type 0} (w : Weights) (l : ℕ × Last) (t : Tree C N) → tree_weight w (with_local l t) ≡ tree_weight w t
  with_local-weight w l (leaf k) = refl
  with_local-weight w l (ordered a b) = λ i. w.other + (with_local-weight w l a i + with_local-weight w l b i)
  with_local-weight w l (weighted ls bs) = λ i. w.other + branches_with_local-weight w l bs i

  branches_with_local-weight : {C N : Type 0} (w : Weights) (l : ℕ × Last) (bs : Branches C N) → branches_weight w (branches_with_local l bs) ≡ branches_weight w bs
  branches_with_local-weight w l no_branch = refl
  branches_with_local-weight w l (branch x t bs) = λ i. with_local-weight w l t i + branches_with_local-weight w l bs i

seq-leaf : {C : Type 0} (w : Weights) (b : Process C) (second : TermTree C) (n : ℕ) → tree_weight w second ≡ n → (l : TermLeaf C) → tree_weight w (in_seq b second l) ≡ leaf_weight (record w { vanish = n }) l
seq-leaf w b second n e vanish = e
seq-leaf w b second n e nothing = refl
seq-leaf w b second n e (raised z) = refl
seq-leaf w b second n e (go cs ls m) = refl

joined-leaf : {C : Type 0} (w : Weights) (cs : List C) (ls : Lasts) (n : Process C) (l : TermLeaf C) → tree_weight w (joined cs ls n l) ≡ leaf_weight (record w { vanish = w.go }) l
joined-leaf w cs ls n vanish = refl
joined-leaf w cs ls n nothing = refl
joined-leaf w cs ls n (raised z) = refl
joined-leaf w cs ls n (go ds ms m) = refl

par-leaf : {C : Type 0} (w : Weights) (second : TermTree C) (n m : ℕ) → tree_weight w second ≡ n → tree_weight (record w { vanish = w.go }) second ≡ m → (l : TermLeaf C) → tree_weight w (in_par second l) ≡ leaf_weight (record w { vanish = n; go = m }) l
par-leaf w second n m e d vanish = e
par-leaf w second n m e d nothing = refl
par-leaf w second n m e d (raised z) = refl
par-leaf w second n m e d (go cs ls k) = with_leaves-weight w (record w { vanish = w.go }) (joined cs ls k) (joined-leaf w cs ls k) refl second ∙ d

assert-leaf : {C : Type 0} (w : Weights) (c : C) (l : TermLeaf C) → tree_weight w (in_assert c l) ≡ leaf_weight w l
assert-leaf w c vanish = refl
assert-leaf w c nothing = refl
assert-leaf w c (raised z) = refl
assert-leaf w c (go cs ls n) = refl

exist-leaf : {C : Type 0} (w : Weights) (start : Value) (x : ℕ) (v : Last) (l : TermLeaf C) → tree_weight w (in_exist start x v l) ≡ leaf_weight w l
exist-leaf w start x v vanish = refl
exist-leaf w start x v nothing = refl
exist-leaf w start x v (raised z) = refl
exist-leaf w start x v (go cs ls n) = refl

raised_by : {C : Type 0} (w : Weights) (y : ℕ) (b : Bool) (handler : TermTree C) (n : ℕ) → tree_weight w handler ≡ n → tree_weight w (if b then handler else leaf (raised y)) ≡ (if b then n else w.raise y)
raised_by w y true handler n e = e
raised_by w y false handler n e = refl

catch-leaf : {C : Type 0} (w : Weights) (z : ℕ) (h : Process C) (handler : TermTree C) (n : ℕ) → tree_weight w handler ≡ n → (l : TermLeaf C) → tree_weight w (in_catch z h handler l) ≡ leaf_weight (with_raise w z n) l
catch-leaf w z h handler n e vanish = refl
catch-leaf w z h handler n e nothing = refl
catch-leaf w z h handler n e (raised y) = raised_by w y (nat_eq y z) handler n e
catch-leaf w z h handler n e (go cs ls m) = refl

try-leaf : {C : Type 0} (w : Weights) (h : Process C) (l : TermLeaf C) → tree_weight w (in_try h l) ≡ leaf_weight w l
try-leaf w h vanish = refl
try-leaf w h nothing = refl
try-leaf w h (raised z) = refl
try-leaf w h (go cs ls n) = refl

mutual
  -- the tree of a term weighs what the term weighs
  weights : {C : Type 0} (kinds : List Kind) (w : Weights) (p : Process C) → tree_weight w (offers_of kinds p) ≡ weight_of w p
  weights kinds w eps = refl
  weights kinds w dead = refl
  weights kinds w (con c) = refl
  weights kinds w (raise z) = refl
  weights kinds w (seq a b) = with_leaves-weight w (record w { vanish = weight_of w b }) (in_seq b (offers_of kinds b)) (seq-leaf w b (offers_of kinds b) (weight_of w b) (weights kinds w b)) refl (offers_of kinds a) ∙ weights kinds (record w { vanish = weight_of w b }) a
  weights kinds w (loop t) = ap (λ n. w.other + (n + w.vanish)) (with_leaves-weight w (record w { vanish = w.other }) (in_turn (loop t)) (seq-leaf w (loop t) (leaf nothing) w.other refl) refl (offers_of kinds t) ∙ weights kinds (record w { vanish = w.other }) t)
  weights kinds w (count i done t) =
      ap (λ n. w.other + (n + (w.vanish + 0))) (with_leaves-weight w (record w { vanish = w.other }) (in_turn (count i (suc done) t)) (seq-leaf w (count i (suc done) t) (leaf nothing) w.other refl) refl (offers_of kinds t) ∙ weights kinds (record w { vanish = w.other }) t)
      ∙ omega arith
  weights kinds w (any cs) = ap (λ n. w.other + n) (all_weights kinds w cs)
  weights kinds w (pri a b) = λ i. w.other + (weights kinds w a i + weights kinds w b i)
  weights kinds w (par a b) =
      let v : Weights = record w { vanish = weight_of w b; go = weight_of (record w { vanish = w.go }) b } in
      with_leaves-weight w v (in_par (offers_of kinds b)) (par-leaf w (offers_of kinds b) (weight_of w b) (weight_of (record w { vanish = w.go }) b) (weights kinds w b) (weights kinds (record w { vanish = w.go }) b)) refl (offers_of kinds a) ∙ weights kinds v a
  weights kinds w (assert c t) = with_leaves-weight w w (in_assert c) (assert-leaf w c) refl (offers_of kinds t) ∙ weights kinds w t
  weights kinds w (exist x v t) = with_leaves-weight w w (in_exist (start_of kinds x) x v) (exist-leaf w (start_of kinds x) x v) refl (with_local (x, v) (offers_of kinds t)) ∙ with_local-weight w (x, v) (offers_of kinds t) ∙ weights kinds w t
  weights kinds w (catch z t h) =
      with_leaves-weight w (with_raise w z (weight_of w h)) (in_catch z h (offers_of kinds h)) (catch-leaf w z h (offers_of kinds h) (weight_of w h) (weights kinds w h)) refl (offers_of kinds t) ∙ weights kinds (with_raise w z (weight_of w h)) t
  weights kinds w (try t h) = λ i. w.other + ((with_leaves-weight w w (in_try h) (try-leaf w h) refl (offers_of kinds t) ∙ weights kinds w t) i + weights kinds w h i)

  all_weights : {C : Type 0} (kinds : List Kind) (w : Weights) (cs : Choices C) → branches_weight w (offers_of_each kinds cs) ≡ weight_of_each w cs
  all_weights kinds w no_choice = refl
  all_weights kinds w (choice x t cs) = λ i. weights kinds w t i + all_weights kinds w cs i

one-leaf : {C N : Type 0} (l : Leaf C N) → leaf_weight each_one l ≡ 1
one-leaf vanish = refl
one-leaf nothing = refl
one-leaf (raised z) = refl
one-leaf (go cs ls n) = refl

mutual
  -- a tree has as many nodes as it weighs where each one weighs 1
  counted : {C N : Type 0} (t : Tree C N) → length (flattened t) ≡ tree_weight each_one t
  counted (leaf l) = sym (one-leaf l)
  counted (ordered a b) = let ha = counted a in let hb = counted b in simp length-append (omega (arith, ha, hb))
  counted (weighted ls bs) = let h = all_counted bs in omega (arith, h)

  all_counted : {C N : Type 0} (bs : Branches C N) → length (flattened_each bs) ≡ branches_weight each_one bs
  all_counted no_branch = refl
  all_counted (branch w t bs) = let ht = counted t in let hb = all_counted bs in simp length-append (omega (arith, ht, hb))

pub size_is_weight : SizeIsWeight
size_is_weight kinds p = counted (offers_of kinds p) ∙ weights kinds each_one p
