-- The numbers of what a term offers are those of the term.
use Rattle.std.proofs.Common.{ℕ, suc, Bool, true, false, ◌&&◌, IsTrue, nat_eq, if◌then◌else◌, List, [], ◌∷◌, ◌++◌, refl, ◌∙◌}
use Rattle.std.proofs.lemmas.List.Folds.{list_all-append}
use Rattle.std.specs.List.{list_all}
use Rattle.lt_num.specs.declared.kind.Kind.{Kind}
use Rattle.lt_num.specs.declared.value.Value.{Value}
use Rattle.lt_term.specs.declared.last.Last.{Last}
use Rattle.lt_term.specs.Mapped.{lasts_pass, leaf_passes, node_and_next_pass, node_passes, weight_passes}
use Rattle.lt_term.specs.Next.{followed_by, beside, asserting, with_scope, catching, trying, kept}
use Rattle.lt_term.specs.Offers.{TermLeaf, TermTree, in_seq, in_turn, joined, in_par, in_assert, in_exist, in_catch, in_try, offers_of, offers_of_each, start_of}
use Rattle.lt_term.specs.Process.{Process, eps, dead, con, raise, seq, loop, count, any, pri, par, assert, exist, catch, try, Choices, no_choice, choice}
use Rattle.lt_term.specs.Tree.{Lasts, Leaf, vanish, nothing, raised, go, Tree, leaf, ordered, weighted, Branches, no_branch, branch, with_leaves, branches_with_leaves, with_local, branches_with_local, weights_of, flattened, flattened_each}
use Rattle.lt_term.proofs.Tests.{both, left_of, right_of}
use Rattle.lt_term.specs.Within.{Tests, passes, each_passes}

all_both : {X : Type 0} (p : X → Bool) (xs ys : List X) → IsTrue (list_all p xs) → IsTrue (list_all p ys) → IsTrue (list_all p (xs ++ ys))
all_both p xs ys h k = list_all-append p xs ys ∙ both _ _ h k

module _ {C : Type 0} (ts : Tests C) where
  -- a tree whose numbers pass, and what comes next does
  abbrev mutual
    TreePass : {N : Type 0} → (N → Bool) → Tree C N → Type 0
    TreePass next (leaf l) = IsTrue (leaf_passes ts next l)
    TreePass next (ordered a b) = TreePass next a × TreePass next b
    TreePass next (weighted ls bs) = IsTrue (lasts_pass ts ls) × BranchesPass next bs

    BranchesPass : {N : Type 0} → (N → Bool) → Branches C N → Type 0
    BranchesPass next no_branch = Unit {0}
    BranchesPass next (branch w t bs) = IsTrue (weight_passes ts w) × TreePass next t × BranchesPass next bs

  module _ {N M : Type 0} (next : N → Bool) (after : M → Bool) (g : Leaf C N → Tree C M) (e : (l : Leaf C N) → IsTrue (leaf_passes ts next l) → TreePass after (g l)) where
    mutual
      with_leaves-pass : (t : Tree C N) → TreePass next t → TreePass after (with_leaves g t)
      with_leaves-pass (leaf l) h = e l h
      with_leaves-pass (ordered a b) h = (with_leaves-pass a h.0, with_leaves-pass b h.1)
      with_leaves-pass (weighted ls bs) h = (h.0, branches-pass bs h.1)

      branches-pass : (bs : Branches C N) → BranchesPass next bs → BranchesPass after (branches_with_leaves g bs)
      branches-pass no_branch h = tt
      branches-pass (branch w t bs) h = (h.0, with_leaves-pass t h.1, branches-pass bs h.2)

  module _ {N : Type 0} (next : N → Bool) where
    mutual
      with_local-passes : (l : ℕ × Last) (t : Tree C N) → IsTrue (ts.local l.0) → TreePass next t → TreePass next (with_local l t)
      with_local-passes l (leaf k) p h = h
      with_local-passes l (ordered a b) p h = (with_local-passes l a p h.0, with_local-passes l b p h.1)
      with_local-passes l (weighted ls bs) p h = (both (ts.local l.0) (lasts_pass ts ls) p h.0, branches_with_local-pass l bs p h.1)

      branches_with_local-pass : (l : ℕ × Last) (bs : Branches C N) → IsTrue (ts.local l.0) → BranchesPass next bs → BranchesPass next (branches_with_local l bs)
      branches_with_local-pass l no_branch p h = tt
      branches_with_local-pass l (branch w t bs) p h = (h.0, with_local-passes l t p h.1, branches_with_local-pass l bs p h.2)

    weights_of-pass : (bs : Branches C N) → BranchesPass next bs → IsTrue (list_all (weight_passes ts) (weights_of bs))
    weights_of-pass no_branch h = refl
    weights_of-pass (branch w t bs) h = both (weight_passes ts w) _ h.0 (weights_of-pass bs h.2)

    mutual
      flattened-passes : (t : Tree C N) → TreePass next t → IsTrue (list_all (node_and_next_pass ts next) (flattened t))
      flattened-passes (leaf l) h = both (leaf_passes ts next l) true h refl
      flattened-passes (ordered a b) h = all_both (node_and_next_pass ts next) (flattened a) (flattened b) (flattened-passes a h.0) (flattened-passes b h.1)
      flattened-passes (weighted ls bs) h = both (lasts_pass ts ls && list_all (weight_passes ts) (weights_of bs)) _ (both (lasts_pass ts ls) _ h.0 (weights_of-pass bs h.1)) (each_flattened-passes bs h.1)

      each_flattened-passes : (bs : Branches C N) → BranchesPass next bs → IsTrue (list_all (node_and_next_pass ts next) (flattened_each bs))
      each_flattened-passes no_branch h = refl
      each_flattened-passes (branch w t bs) h = all_both (node_and_next_pass ts next) (flattened t) (flattened_each bs) (flattened-passes t h.1) (each_flattened-passes bs h.2)

  -- a leaf and a tree of a term whose numbers pass
  abbrev LeafPasses : TermLeaf C → Type 0
  LeafPasses l = IsTrue (leaf_passes ts (passes ts) l)

  abbrev TreePasses : TermTree C → Type 0
  TreePasses t = TreePass (passes ts) t

  with_leaves-passes : (g : TermLeaf C → TermTree C) → ((l : TermLeaf C) → LeafPasses l → TreePasses (g l)) → (t : TermTree C) → TreePasses t → TreePasses (with_leaves g t)
  with_leaves-passes g e t h = with_leaves-pass (passes ts) (passes ts) g e t h

  -- an instant, by its parts
  go_passes : (cs : List C) (ls : Lasts) (n : Process C) → IsTrue (list_all ts.constraint cs) → IsTrue (lasts_pass ts ls) → IsTrue (passes ts n) → LeafPasses (go cs ls n)
  go_passes cs ls n hc hl hn = both (list_all ts.constraint cs) _ hc (both (lasts_pass ts ls) (passes ts n) hl hn)

  go_constraints : (cs : List C) (ls : Lasts) (n : Process C) → LeafPasses (go cs ls n) → IsTrue (list_all ts.constraint cs)
  go_constraints cs ls n h = left_of (list_all ts.constraint cs) _ h

  go_lasts : (cs : List C) (ls : Lasts) (n : Process C) → LeafPasses (go cs ls n) → IsTrue (lasts_pass ts ls)
  go_lasts cs ls n h = left_of (lasts_pass ts ls) (passes ts n) (right_of (list_all ts.constraint cs) _ h)

  go_next : (cs : List C) (ls : Lasts) (n : Process C) → LeafPasses (go cs ls n) → IsTrue (passes ts n)
  go_next cs ls n h = right_of (lasts_pass ts ls) (passes ts n) (right_of (list_all ts.constraint cs) _ h)

  -- an instant with something else that comes next
  then_passes : (cs : List C) (ls : Lasts) (n m : Process C) → (IsTrue (passes ts n) → IsTrue (passes ts m)) → LeafPasses (go cs ls n) → LeafPasses (go cs ls m)
  then_passes cs ls n m f h = go_passes cs ls m (go_constraints cs ls n h) (go_lasts cs ls n h) (f (go_next cs ls n h))

  followed_by-passes : (a b : Process C) → IsTrue (passes ts b) → IsTrue (passes ts a) → IsTrue (passes ts (followed_by a b))
  followed_by-passes eps b k h = k
  followed_by-passes a b k h = both (passes ts a) (passes ts b) h k

  beside-passes : (a b : Process C) → IsTrue (passes ts a) → IsTrue (passes ts b) → IsTrue (passes ts (beside a b))
  beside-passes eps b h k = k
  beside-passes a eps h k = h
  beside-passes a b h k = both (passes ts a) (passes ts b) h k

  asserting-passes : (c : C) (a : Process C) → IsTrue (ts.constraint c) → IsTrue (passes ts a) → IsTrue (passes ts (asserting c a))
  asserting-passes c eps k h = h
  asserting-passes c a k h = both (ts.constraint c) (passes ts a) k h

  with_scope-passes : (x : ℕ) (v : Last) (a : Process C) → IsTrue (ts.local x) → IsTrue (passes ts a) → IsTrue (passes ts (with_scope x v a))
  with_scope-passes x v eps k h = h
  with_scope-passes x v a k h = both (ts.local x) (passes ts a) k h

  catching-passes : (z : ℕ) (a b : Process C) → IsTrue (ts.exception z) → IsTrue (passes ts b) → IsTrue (passes ts a) → IsTrue (passes ts (catching z a b))
  catching-passes z eps b e k h = h
  catching-passes z a b e k h = both (ts.exception z) (passes ts a && passes ts b) e (both (passes ts a) (passes ts b) h k)

  trying-passes : (a b : Process C) → IsTrue (passes ts b) → IsTrue (passes ts a) → IsTrue (passes ts (trying a b))
  trying-passes eps b k h = h
  trying-passes a b k h = both (passes ts a) (passes ts b) h k

  seq-leaf : (b : Process C) (s : TermTree C) → IsTrue (passes ts b) → TreePasses s → (l : TermLeaf C) → LeafPasses l → TreePasses (in_seq b s l)
  seq-leaf b s k p vanish h = p
  seq-leaf b s k p nothing h = h
  seq-leaf b s k p (raised z) h = h
  seq-leaf b s k p (go cs ls n) h = then_passes cs ls n (followed_by n b) (followed_by-passes n b k) h

  joined-leaf : (cs : List C) (ls : Lasts) (n : Process C) → LeafPasses (go cs ls n) → (l : TermLeaf C) → LeafPasses l → TreePasses (joined cs ls n l)
  joined-leaf cs ls n k vanish h = k
  joined-leaf cs ls n k nothing h = h
  joined-leaf cs ls n k (raised z) h = h
  joined-leaf cs ls n k (go ds ms m) h =
      go_passes (cs ++ ds) (ls ++ ms) (beside n m) (all_both ts.constraint cs ds (go_constraints cs ls n k) (go_constraints ds ms m h))
      (all_both (λ l. ts.local l.0) ls ms (go_lasts cs ls n k) (go_lasts ds ms m h)) (beside-passes n m (go_next cs ls n k) (go_next ds ms m h))

  par-leaf : (s : TermTree C) → TreePasses s → (l : TermLeaf C) → LeafPasses l → TreePasses (in_par s l)
  par-leaf s p vanish h = p
  par-leaf s p nothing h = h
  par-leaf s p (raised z) h = h
  par-leaf s p (go cs ls n) h = with_leaves-passes (joined cs ls n) (joined-leaf cs ls n h) s p

  assert-leaf : (c : C) → IsTrue (ts.constraint c) → (l : TermLeaf C) → LeafPasses l → TreePasses (in_assert c l)
  assert-leaf c k vanish h = h
  assert-leaf c k nothing h = h
  assert-leaf c k (raised z) h = h
  assert-leaf c k (go cs ls n) h = go_passes (c ∷ cs) ls (asserting c n) (both (ts.constraint c) (list_all ts.constraint cs) k (go_constraints cs ls n h)) (go_lasts cs ls n h) (asserting-passes c n k (go_next cs ls n h))

  exist-leaf : (start : Value) (x : ℕ) (v : Last) → IsTrue (ts.local x) → (l : TermLeaf C) → LeafPasses l → TreePasses (in_exist start x v l)
  exist-leaf start x v k vanish h = h
  exist-leaf start x v k nothing h = h
  exist-leaf start x v k (raised z) h = h
  exist-leaf start x v k (go cs ls n) h = go_passes cs ((x, v) ∷ ls) (with_scope x (kept start v) n) (go_constraints cs ls n h) (both (ts.local x) (lasts_pass ts ls) k (go_lasts cs ls n h)) (with_scope-passes x (kept start v) n k (go_next cs ls n h))

  raised_by : (y : ℕ) (b : Bool) (s : TermTree C) → TreePasses s → IsTrue (ts.exception y) → TreePasses (if b then s else leaf (raised y))
  raised_by y true s p h = p
  raised_by y false s p h = h

  catch-leaf : (z : ℕ) (b : Process C) (s : TermTree C) → IsTrue (ts.exception z) → IsTrue (passes ts b) → TreePasses s → (l : TermLeaf C) → LeafPasses l → TreePasses (in_catch z b s l)
  catch-leaf z b s e k p vanish h = h
  catch-leaf z b s e k p nothing h = h
  catch-leaf z b s e k p (raised y) h = raised_by y (nat_eq y z) s p h
  catch-leaf z b s e k p (go cs ls n) h = then_passes cs ls n (catching z n b) (catching-passes z n b e k) h

  try-leaf : (b : Process C) → IsTrue (passes ts b) → (l : TermLeaf C) → LeafPasses l → TreePasses (in_try b l)
  try-leaf b k vanish h = h
  try-leaf b k nothing h = h
  try-leaf b k (raised z) h = h
  try-leaf b k (go cs ls n) h = then_passes cs ls n (trying n b) (trying-passes n b k) h

  mutual
    -- what a term offers has its numbers alone
    offers_of-passes : (kinds : List Kind) (p : Process C) → IsTrue (passes ts p) → TreePasses (offers_of kinds p)
    offers_of-passes kinds eps h = refl
    offers_of-passes kinds dead h = refl
    offers_of-passes kinds (con c) h = go_passes (c ∷ []) [] eps (both (ts.constraint c) true h refl) refl refl
    offers_of-passes kinds (raise z) h = h
    offers_of-passes kinds (seq a b) h =
        let k : IsTrue (passes ts b) = right_of (passes ts a) (passes ts b) h in
        with_leaves-passes (in_seq b (offers_of kinds b)) (seq-leaf b (offers_of kinds b) k (offers_of-passes kinds b k)) (offers_of kinds a) (offers_of-passes kinds a (left_of (passes ts a) (passes ts b) h))
    offers_of-passes kinds (loop t) h = (with_leaves-passes (in_turn (loop t)) (seq-leaf (loop t) (leaf nothing) h refl) (offers_of kinds t) (offers_of-passes kinds t h), refl)
    offers_of-passes kinds (count i done t) h =
        let k : IsTrue (ts.counter i) = left_of (ts.counter i) (passes ts t) h in
        (refl, (k, with_leaves-passes (in_turn (count i (suc done) t)) (seq-leaf (count i (suc done) t) (leaf nothing) h refl) (offers_of kinds t) (offers_of-passes kinds t (right_of (ts.counter i) (passes ts t) h)), (k, refl, tt)))
    offers_of-passes kinds (any cs) h = (refl, each_offers-pass kinds cs h)
    offers_of-passes kinds (pri a b) h = (offers_of-passes kinds a (left_of (passes ts a) (passes ts b) h), offers_of-passes kinds b (right_of (passes ts a) (passes ts b) h))
    offers_of-passes kinds (par a b) h =
        with_leaves-passes (in_par (offers_of kinds b)) (par-leaf (offers_of kinds b) (offers_of-passes kinds b (right_of (passes ts a) (passes ts b) h))) (offers_of kinds a) (offers_of-passes kinds a (left_of (passes ts a) (passes ts b) h))
    offers_of-passes kinds (assert c t) h =
        with_leaves-passes (in_assert c) (assert-leaf c (left_of (ts.constraint c) (passes ts t) h)) (offers_of kinds t) (offers_of-passes kinds t (right_of (ts.constraint c) (passes ts t) h))
    offers_of-passes kinds (exist x v t) h =
        let k : IsTrue (ts.local x) = left_of (ts.local x) (passes ts t) h in
        with_leaves-passes (in_exist (start_of kinds x) x v) (exist-leaf (start_of kinds x) x v k) (with_local (x, v) (offers_of kinds t)) (with_local-passes (passes ts) (x, v) (offers_of kinds t) k (offers_of-passes kinds t (right_of (ts.local x) (passes ts t) h)))
    offers_of-passes kinds (catch z t b) h =
        let r : IsTrue (passes ts t && passes ts b) = right_of (ts.exception z) (passes ts t && passes ts b) h in
        let k : IsTrue (passes ts b) = right_of (passes ts t) (passes ts b) r in
        with_leaves-passes (in_catch z b (offers_of kinds b)) (catch-leaf z b (offers_of kinds b) (left_of (ts.exception z) (passes ts t && passes ts b) h) k (offers_of-passes kinds b k)) (offers_of kinds t) (offers_of-passes kinds t (left_of (passes ts t) (passes ts b) r))
    offers_of-passes kinds (try t b) h =
        let k : IsTrue (passes ts b) = right_of (passes ts t) (passes ts b) h in
        (with_leaves-passes (in_try b) (try-leaf b k) (offers_of kinds t) (offers_of-passes kinds t (left_of (passes ts t) (passes ts b) h)), offers_of-passes kinds b k)

    each_offers-pass : (kinds : List Kind) (cs : Choices C) → IsTrue (each_passes ts cs) → BranchesPass (passes ts) (offers_of_each kinds cs)
    each_offers-pass kinds no_choice h = tt
    each_offers-pass kinds (choice w t cs) h =
        let r : IsTrue (passes ts t && each_passes ts cs) = right_of (ts.constraint w) (passes ts t && each_passes ts cs) h in
        (left_of (ts.constraint w) (passes ts t && each_passes ts cs) h, offers_of-passes kinds t (left_of (passes ts t) (each_passes ts cs) r), each_offers-pass kinds cs (right_of (passes ts t) (each_passes ts cs) r))

-- the nodes that a term offers have its numbers alone
pub nodes_pass : {C : Type 0} (ts : Tests C) (kinds : List Kind) (p : Process C) → IsTrue (passes ts p) → IsTrue (list_all (node_passes ts) (flattened (offers_of kinds p)))
nodes_pass ts kinds p h = flattened-passes ts (passes ts) (offers_of kinds p) (offers_of-passes ts kinds p h)
