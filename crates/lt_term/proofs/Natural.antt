-- The trees of terms with other constraints.
use Rattle.std.proofs.Common.{◌≡◌, ℕ, suc, Bool, true, false, nat_eq, if◌then◌else◌, List, [], ◌∷◌, ◌++◌, map, refl, ap, ◌∙◌}
use Rattle.std.proofs.lemmas.List.{map-append}
use Rattle.lt_num.specs.declared.kind.Kind.{Kind}
use Rattle.lt_num.specs.declared.value.Value.{Value}
use Rattle.lt_term.specs.declared.last.Last.{Last}
use Rattle.lt_term.specs.Mapped.{leaf_mapped, node_mapped, node_with_constraints, weight_mapped}
use Rattle.lt_term.specs.Next.{followed_by, beside, asserting, with_scope, catching, trying, kept}
use Rattle.lt_term.specs.Offers.{TermLeaf, TermTree, in_seq, in_turn, joined, in_par, in_assert, in_exist, in_catch, in_try, offers_of, offers_of_each, start_of}
use Rattle.lt_term.specs.Process.{Process, eps, dead, con, raise, seq, loop, count, any, pri, par, assert, exist, catch, try, Choices, no_choice, choice, with_constraints, choices_with_constraints}
use Rattle.lt_term.specs.Tree.{expression, Lasts, Leaf, vanish, nothing, raised, go, Tree, leaf, ordered, weighted, Branches, no_branch, branch, more, stop, with_leaves, branches_with_leaves, with_local, branches_with_local, weights_of, flattened, flattened_each, ordered_node, weighted_node}

-- a tree with f of each constraint, and with g of what comes next
abbrev mutual
  tree_mapped : {C D N M : Type 0} → (C → D) → (N → M) → Tree C N → Tree D M
  tree_mapped f g (leaf l) = leaf (leaf_mapped f g l)
  tree_mapped f g (ordered a b) = ordered (tree_mapped f g a) (tree_mapped f g b)
  tree_mapped f g (weighted ls bs) = weighted ls (branches_mapped f g bs)

  branches_mapped : {C D N M : Type 0} → (C → D) → (N → M) → Branches C N → Branches D M
  branches_mapped f g no_branch = no_branch
  branches_mapped f g (branch w t bs) = branch (weight_mapped f w) (tree_mapped f g t) (branches_mapped f g bs)

module _ {C D N M O P : Type 0} (f : C → D) (g : N → M) (h : O → P) (r : Leaf C N → Tree C O) (s : Leaf D M → Tree D P) (e : (l : Leaf C N) → tree_mapped f h (r l) ≡ s (leaf_mapped f g l)) where
  mutual
    -- where leaves are replaced alike, trees are
    with_leaves-mapped : (t : Tree C N) → tree_mapped f h (with_leaves r t) ≡ with_leaves s (tree_mapped f g t)
    with_leaves-mapped (leaf l) = e l
    with_leaves-mapped (ordered a b) = λ i. ordered (with_leaves-mapped a i) (with_leaves-mapped b i)
    with_leaves-mapped (weighted ls bs) = λ i. weighted ls (branches_with_leaves-mapped bs i)

    branches_with_leaves-mapped : (bs : Branches C N) → branches_mapped f h (branches_with_leaves r bs) ≡ branches_with_leaves s (branches_mapped f g bs)
    branches_with_leaves-mapped no_branch = refl
    branches_with_leaves-mapped (branch w t bs) = λ i. branch (weight_mapped f w) (with_leaves-mapped t i) (branches_with_leaves-mapped bs i)

module _ {C D N M : Type 0} (f : C → D) (g : N → M) where
  mutual
    with_local-mapped : (l : ℕ × Last) (t : Tree C N) → tree_mapped f g (with_local l t) ≡ with_local l (tree_mapped f g t)
    with_local-mapped l (leaf k) = refl
    with_local-mapped l (ordered a b) = λ i. ordered (with_local-mapped l a i) (with_local-mapped l b i)
    with_local-mapped l (weighted ls bs) = λ i. weighted (l ∷ ls) (branches_with_local-mapped l bs i)

    branches_with_local-mapped : (l : ℕ × Last) (bs : Branches C N) → branches_mapped f g (branches_with_local l bs) ≡ branches_with_local l (branches_mapped f g bs)
    branches_with_local-mapped l no_branch = refl
    branches_with_local-mapped l (branch w t bs) = λ i. branch (weight_mapped f w) (with_local-mapped l t i) (branches_with_local-mapped l bs i)

  weights_of-mapped : (bs : Branches C N) → map (weight_mapped f) (weights_of bs) ≡ weights_of (branches_mapped f g bs)
  weights_of-mapped no_branch = refl
  weights_of-mapped (branch w t bs) = ap (λ ws. weight_mapped f w ∷ ws) (weights_of-mapped bs)

  mutual
    flattened-mapped : (t : Tree C N) → map (node_mapped f g) (flattened t) ≡ flattened (tree_mapped f g t)
    flattened-mapped (leaf l) = refl
    flattened-mapped (ordered a b) =
        ap (λ ns. ordered_node ∷ ns) (map-append (node_mapped f g) (flattened a) (flattened b) ∙ (λ i. flattened-mapped a i ++ flattened-mapped b i))
    flattened-mapped (weighted ls bs) = λ i. weighted_node ls (weights_of-mapped bs i) ∷ flattened_each-mapped bs i

    flattened_each-mapped : (bs : Branches C N) → map (node_mapped f g) (flattened_each bs) ≡ flattened_each (branches_mapped f g bs)
    flattened_each-mapped no_branch = refl
    flattened_each-mapped (branch w t bs) =
        map-append (node_mapped f g) (flattened t) (flattened_each bs) ∙ (λ i. flattened-mapped t i ++ flattened_each-mapped bs i)

-- a leaf and a tree of a term, with other constraints
abbrev leaf_with_constraints : {C D : Type 0} → (C → D) → TermLeaf C → TermLeaf D
leaf_with_constraints f l = leaf_mapped f (with_constraints f) l

abbrev tree_with_constraints : {C D : Type 0} → (C → D) → TermTree C → TermTree D
tree_with_constraints f t = tree_mapped f (with_constraints f) t

module _ {C D : Type 0} (f : C → D) where
  followed_by-natural : (a b : Process C) → with_constraints f (followed_by a b) ≡ followed_by (with_constraints f a) (with_constraints f b)
  followed_by-natural eps b = refl
  followed_by-natural a b = refl

  beside-natural : (a b : Process C) → with_constraints f (beside a b) ≡ beside (with_constraints f a) (with_constraints f b)
  beside-natural eps b = refl
  beside-natural a eps = refl
  beside-natural a b = refl

  asserting-natural : (c : C) (a : Process C) → with_constraints f (asserting c a) ≡ asserting (f c) (with_constraints f a)
  asserting-natural c eps = refl
  asserting-natural c a = refl

  with_scope-natural : (x : ℕ) (v : Last) (a : Process C) → with_constraints f (with_scope x v a) ≡ with_scope x v (with_constraints f a)
  with_scope-natural x v eps = refl
  with_scope-natural x v a = refl

  catching-natural : (z : ℕ) (a h : Process C) → with_constraints f (catching z a h) ≡ catching z (with_constraints f a) (with_constraints f h)
  catching-natural z eps h = refl
  catching-natural z a h = refl

  trying-natural : (a h : Process C) → with_constraints f (trying a h) ≡ trying (with_constraints f a) (with_constraints f h)
  trying-natural eps h = refl
  trying-natural a h = refl

  with_leaves-natural : (r : TermLeaf C → TermTree C) (s : TermLeaf D → TermTree D) (e : (l : TermLeaf C) → tree_with_constraints f (r l) ≡ s (leaf_with_constraints f l)) (t : TermTree C)
      → tree_with_constraints f (with_leaves r t) ≡ with_leaves s (tree_with_constraints f t)
  with_leaves-natural r s e t = with_leaves-mapped f (with_constraints f) (with_constraints f) r s e t

  seq-leaf : (b : Process C) (s : TermTree C) (u : TermTree D) → tree_with_constraints f s ≡ u → (l : TermLeaf C) → tree_with_constraints f (in_seq b s l) ≡ in_seq (with_constraints f b) u (leaf_with_constraints f l)
  seq-leaf b s u e vanish = e
  seq-leaf b s u e nothing = refl
  seq-leaf b s u e (raised z) = refl
  seq-leaf b s u e (go cs ls n) = ap (λ m. leaf (go (map f cs) ls m)) (followed_by-natural n b)

  joined-leaf : (cs : List C) (ls : Lasts) (n : Process C) (l : TermLeaf C) → tree_with_constraints f (joined cs ls n l) ≡ joined (map f cs) ls (with_constraints f n) (leaf_with_constraints f l)
  joined-leaf cs ls n vanish = refl
  joined-leaf cs ls n nothing = refl
  joined-leaf cs ls n (raised z) = refl
  joined-leaf cs ls n (go ds ms m) = λ i. leaf (go (map-append f cs ds i) (ls ++ ms) (beside-natural n m i))

  par-leaf : (s : TermTree C) (u : TermTree D) → tree_with_constraints f s ≡ u → (l : TermLeaf C) → tree_with_constraints f (in_par s l) ≡ in_par u (leaf_with_constraints f l)
  par-leaf s u e vanish = e
  par-leaf s u e nothing = refl
  par-leaf s u e (raised z) = refl
  par-leaf s u e (go cs ls n) =
      with_leaves-natural (joined cs ls n) (joined (map f cs) ls (with_constraints f n)) (joined-leaf cs ls n) s
      ∙ ap (with_leaves (joined (map f cs) ls (with_constraints f n))) e

  assert-leaf : (c : C) (l : TermLeaf C) → tree_with_constraints f (in_assert c l) ≡ in_assert (f c) (leaf_with_constraints f l)
  assert-leaf c vanish = refl
  assert-leaf c nothing = refl
  assert-leaf c (raised z) = refl
  assert-leaf c (go cs ls n) = ap (λ m. leaf (go (f c ∷ map f cs) ls m)) (asserting-natural c n)

  exist-leaf : (start : Value) (x : ℕ) (v : Last) (l : TermLeaf C) → tree_with_constraints f (in_exist start x v l) ≡ in_exist start x v (leaf_with_constraints f l)
  exist-leaf start x v vanish = refl
  exist-leaf start x v nothing = refl
  exist-leaf start x v (raised z) = refl
  exist-leaf start x v (go cs ls n) = ap (λ m. leaf (go (map f cs) ((x, v) ∷ ls) m)) (with_scope-natural x (kept start v) n)

  raised_by : (y : ℕ) (b : Bool) (s : TermTree C) (u : TermTree D) → tree_with_constraints f s ≡ u → tree_with_constraints f (if b then s else leaf (raised y)) ≡ (if b then u else leaf (raised y))
  raised_by y true s u e = e
  raised_by y false s u e = refl

  catch-leaf : (z : ℕ) (h : Process C) (s : TermTree C) (u : TermTree D) → tree_with_constraints f s ≡ u → (l : TermLeaf C) → tree_with_constraints f (in_catch z h s l) ≡ in_catch z (with_constraints f h) u (leaf_with_constraints f l)
  catch-leaf z h s u e vanish = refl
  catch-leaf z h s u e nothing = refl
  catch-leaf z h s u e (raised y) = raised_by y (nat_eq y z) s u e
  catch-leaf z h s u e (go cs ls n) = ap (λ m. leaf (go (map f cs) ls m)) (catching-natural z n h)

  try-leaf : (h : Process C) (l : TermLeaf C) → tree_with_constraints f (in_try h l) ≡ in_try (with_constraints f h) (leaf_with_constraints f l)
  try-leaf h vanish = refl
  try-leaf h nothing = refl
  try-leaf h (raised z) = refl
  try-leaf h (go cs ls n) = ap (λ m. leaf (go (map f cs) ls m)) (trying-natural n h)

  mutual
    -- what a term with other constraints offers
    offers_of-natural : (kinds : List Kind) (p : Process C) → tree_with_constraints f (offers_of kinds p) ≡ offers_of kinds (with_constraints f p)
    offers_of-natural kinds eps = refl
    offers_of-natural kinds dead = refl
    offers_of-natural kinds (con c) = refl
    offers_of-natural kinds (raise z) = refl
    offers_of-natural kinds (seq a b) =
        with_leaves-natural (in_seq b (offers_of kinds b)) (in_seq (with_constraints f b) (offers_of kinds (with_constraints f b))) (seq-leaf b (offers_of kinds b) (offers_of kinds (with_constraints f b)) (offers_of-natural kinds b)) (offers_of kinds a)
        ∙ ap (with_leaves (in_seq (with_constraints f b) (offers_of kinds (with_constraints f b)))) (offers_of-natural kinds a)
    offers_of-natural kinds (loop t) =
        ap (λ s. ordered s (leaf vanish))
        (with_leaves-natural (in_turn (loop t)) (in_turn (loop (with_constraints f t))) (seq-leaf (loop t) (leaf nothing) (leaf nothing) refl) (offers_of kinds t)
        ∙ ap (with_leaves (in_turn (loop (with_constraints f t)))) (offers_of-natural kinds t))
    offers_of-natural kinds (count i done t) =
        ap (λ s. weighted [] (branch (more i done) s (branch (stop i done) (leaf vanish) no_branch)))
        (with_leaves-natural (in_turn (count i (suc done) t)) (in_turn (count i (suc done) (with_constraints f t))) (seq-leaf (count i (suc done) t) (leaf nothing) (leaf nothing) refl) (offers_of kinds t)
        ∙ ap (with_leaves (in_turn (count i (suc done) (with_constraints f t)))) (offers_of-natural kinds t))
    offers_of-natural kinds (any cs) = ap (weighted []) (offers_of_each-natural kinds cs)
    offers_of-natural kinds (pri a b) = λ i. ordered (offers_of-natural kinds a i) (offers_of-natural kinds b i)
    offers_of-natural kinds (par a b) =
        with_leaves-natural (in_par (offers_of kinds b)) (in_par (offers_of kinds (with_constraints f b))) (par-leaf (offers_of kinds b) (offers_of kinds (with_constraints f b)) (offers_of-natural kinds b)) (offers_of kinds a)
        ∙ ap (with_leaves (in_par (offers_of kinds (with_constraints f b)))) (offers_of-natural kinds a)
    offers_of-natural kinds (assert c t) =
        with_leaves-natural (in_assert c) (in_assert (f c)) (assert-leaf c) (offers_of kinds t) ∙ ap (with_leaves (in_assert (f c))) (offers_of-natural kinds t)
    offers_of-natural kinds (exist x v t) =
        with_leaves-natural (in_exist (start_of kinds x) x v) (in_exist (start_of kinds x) x v) (exist-leaf (start_of kinds x) x v) (with_local (x, v) (offers_of kinds t))
        ∙ ap (with_leaves (in_exist (start_of kinds x) x v)) (with_local-mapped f (with_constraints f) (x, v) (offers_of kinds t) ∙ ap (with_local (x, v)) (offers_of-natural kinds t))
    offers_of-natural kinds (catch z t h) =
        with_leaves-natural (in_catch z h (offers_of kinds h)) (in_catch z (with_constraints f h) (offers_of kinds (with_constraints f h))) (catch-leaf z h (offers_of kinds h) (offers_of kinds (with_constraints f h)) (offers_of-natural kinds h)) (offers_of kinds t)
        ∙ ap (with_leaves (in_catch z (with_constraints f h) (offers_of kinds (with_constraints f h)))) (offers_of-natural kinds t)
    offers_of-natural kinds (try t h) = λ i.
        ordered
        ((with_leaves-natural (in_try h) (in_try (with_constraints f h)) (try-leaf h) (offers_of kinds t) ∙ ap (with_leaves (in_try (with_constraints f h))) (offers_of-natural kinds t)) i)
        (offers_of-natural kinds h i)

    offers_of_each-natural : (kinds : List Kind) (cs : Choices C) → branches_mapped f (with_constraints f) (offers_of_each kinds cs) ≡ offers_of_each kinds (choices_with_constraints f cs)
    offers_of_each-natural kinds no_choice = refl
    offers_of_each-natural kinds (choice w t cs) = λ i. branch (weight_mapped f (expression w)) (offers_of-natural kinds t i) (offers_of_each-natural kinds cs i)

-- the nodes that a term offers, with other constraints
pub nodes_natural : {D : Type 0} (f : ℕ → D) (kinds : List Kind) (p : Process ℕ) → map (node_with_constraints f) (flattened (offers_of kinds p)) ≡ flattened (offers_of kinds (with_constraints f p))
nodes_natural f kinds p = flattened-mapped f (with_constraints f) (offers_of kinds p) ∙ ap flattened (offers_of-natural f kinds p)
