-- Counted loops turn at most once in an instant.
use Rattle.std.proofs.Common.{◌≤◌, ℕ, suc, Bool, true, false, nat_eq, if◌then◌else◌, List, [], ◌++◌, All, arith}
use Rattle.std.proofs.lemmas.List.Elements.{All-append, All-cons, All-nil}
use Rattle.lt_num.specs.declared.kind.Kind.{Kind}
use Rattle.lt_num.specs.declared.value.Value.{Value}
use Rattle.lt_term.specs.Counted.{IsDoneTo, AreDoneTo}
use Rattle.lt_term.specs.Next.{followed_by, beside, asserting, with_scope, catching, trying, kept}
use Rattle.lt_term.specs.Offers.{TermLeaf, TermTree, in_seq, in_turn, joined, in_par, in_assert, in_exist, in_catch, in_try, offers_of, offers_of_each, start_of}
use Rattle.lt_term.specs.Process.{Process, eps, dead, con, raise, seq, loop, count, any, pri, par, assert, exist, catch, try, Choices, no_choice, choice}
use Rattle.lt_term.specs.Tree.{Lasts, Leaf, Weight, vanish, nothing, raised, go, Tree, leaf, ordered, weighted, Branches, no_branch, branch, with_leaves, branches_with_leaves, with_local, branches_with_local, Node, leaf_node, ordered_node, weighted_node, weights_of, flattened, flattened_each}
use Rattle.lt_term.specs.Turns.{NextIsDoneTo, FewTurnsAreFew, TurnsGrowByOne}
use Rattle.lt_term.specs.declared.last.Last.{Last}

-- no more turns than some are no more than a greater number of them
mutual
  fewer : {C : Type 0} (k m : ℕ) (p : Process C) → k ≤ m → IsDoneTo k p → IsDoneTo m p
  fewer k m eps l h = tt
  fewer k m dead l h = tt
  fewer k m (con c) l h = tt
  fewer k m (raise z) l h = tt
  fewer k m (seq a b) l h = (fewer k m a l h.0, fewer k m b l h.1)
  fewer k m (loop t) l h = fewer k m t l h
  fewer k m (count i done t) l h = (omega (arith, l, h.0), fewer k m t l h.1)
  fewer k m (any cs) l h = each_fewer k m cs l h
  fewer k m (pri a b) l h = (fewer k m a l h.0, fewer k m b l h.1)
  fewer k m (par a b) l h = (fewer k m a l h.0, fewer k m b l h.1)
  fewer k m (assert c t) l h = fewer k m t l h
  fewer k m (exist x v t) l h = fewer k m t l h
  fewer k m (catch z t b) l h = (fewer k m t l h.0, fewer k m b l h.1)
  fewer k m (try t b) l h = (fewer k m t l h.0, fewer k m b l h.1)

  each_fewer : {C : Type 0} (k m : ℕ) (cs : Choices C) → k ≤ m → AreDoneTo k cs → AreDoneTo m cs
  each_fewer k m no_choice l h = tt
  each_fewer k m (choice w t cs) l h = (fewer k m t l h.0, each_fewer k m cs l h.1)

-- one more may be done
one_more : {C : Type 0} (k : ℕ) (p : Process C) → IsDoneTo k p → IsDoneTo (suc k) p
one_more k p h = fewer k (suc k) p (omega arith) h

-- a fact of each leaf of a tree
abbrev mutual
  TreeAll : {C N : Type 0} → (Leaf C N → Type 0) → Tree C N → Type 0
  TreeAll P (leaf l) = P l
  TreeAll P (ordered a b) = TreeAll P a × TreeAll P b
  TreeAll P (weighted ls bs) = BranchesAll P bs

  BranchesAll : {C N : Type 0} → (Leaf C N → Type 0) → Branches C N → Type 0
  BranchesAll P no_branch = Unit {0}
  BranchesAll P (branch w t bs) = TreeAll P t × BranchesAll P bs

module _ {C N : Type 0} (P : Leaf C N → Type 0) where
  module _ (Q : Node C N → Type 0) (here : (l : Leaf C N) → P l → Q (leaf_node l)) (ordered_too : Q ordered_node) (weighted_too : (ls : Lasts) (ws : List (Weight C)) → Q (weighted_node ls ws)) where
    mutual
      flattened-all : (t : Tree C N) → TreeAll P t → All Q (flattened t)
      flattened-all (leaf l) h = All-cons Q (leaf_node l) [] (here l h) (All-nil Q)
      flattened-all (ordered a b) h = All-cons Q ordered_node (flattened a ++ flattened b) ordered_too (All-append Q (flattened a) (flattened b) (flattened-all a h.0) (flattened-all b h.1))
      flattened-all (weighted ls bs) h = All-cons Q (weighted_node ls (weights_of bs)) (flattened_each bs) (weighted_too ls (weights_of bs)) (each_flattened-all bs h)

      each_flattened-all : (bs : Branches C N) → BranchesAll P bs → All Q (flattened_each bs)
      each_flattened-all no_branch h = All-nil Q
      each_flattened-all (branch w t bs) h = All-append Q (flattened t) (flattened_each bs) (flattened-all t h.0) (each_flattened-all bs h.1)

  module _ {M : Type 0} (R : Leaf C M → Type 0) (g : Leaf C N → Tree C M) (e : (l : Leaf C N) → P l → TreeAll R (g l)) where
    mutual
      with_leaves-all : (t : Tree C N) → TreeAll P t → TreeAll R (with_leaves g t)
      with_leaves-all (leaf l) h = e l h
      with_leaves-all (ordered a b) h = (with_leaves-all a h.0, with_leaves-all b h.1)
      with_leaves-all (weighted ls bs) h = branches-all bs h

      branches-all : (bs : Branches C N) → BranchesAll P bs → BranchesAll R (branches_with_leaves g bs)
      branches-all no_branch h = tt
      branches-all (branch w t bs) h = (with_leaves-all t h.0, branches-all bs h.1)

  mutual
    with_local-all : (l : ℕ × Last) (t : Tree C N) → TreeAll P t → TreeAll P (with_local l t)
    with_local-all l (leaf m) h = h
    with_local-all l (ordered a b) h = (with_local-all l a h.0, with_local-all l b h.1)
    with_local-all l (weighted ls bs) h = branches_with_local-all l bs h

    branches_with_local-all : (l : ℕ × Last) (bs : Branches C N) → BranchesAll P bs → BranchesAll P (branches_with_local l bs)
    branches_with_local-all l no_branch h = tt
    branches_with_local-all l (branch w t bs) h = (with_local-all l t h.0, branches_with_local-all l bs h.1)

-- what comes next after a leaf, or after each leaf of a tree, has no more turns done than so many
abbrev LeafDoneTo : {C : Type 0} → ℕ → TermLeaf C → Type 0
LeafDoneTo k l = NextIsDoneTo k (leaf_node l)

abbrev TreeDoneTo : {C : Type 0} → ℕ → TermTree C → Type 0
TreeDoneTo k t = TreeAll (LeafDoneTo k) t

module _ {C : Type 0} (k : ℕ) where
  flattened-done : (t : TermTree C) → TreeDoneTo k t → All (NextIsDoneTo k) (flattened t)
  flattened-done t h = flattened-all (LeafDoneTo k) (NextIsDoneTo k) (λ l p. p) tt (λ ls ws. tt) t h

  with_leaves-done : (g : TermLeaf C → TermTree C) → ((l : TermLeaf C) → LeafDoneTo k l → TreeDoneTo k (g l)) → (t : TermTree C) → TreeDoneTo k t → TreeDoneTo k (with_leaves g t)
  with_leaves-done g e t h = with_leaves-all (LeafDoneTo k) (LeafDoneTo k) g e t h

  with_local-done : (l : ℕ × Last) (t : TermTree C) → TreeDoneTo k t → TreeDoneTo k (with_local l t)
  with_local-done l t h = with_local-all (LeafDoneTo k) l t h

  followed_by-done : (a b : Process C) → IsDoneTo k b → IsDoneTo k a → IsDoneTo k (followed_by a b)
  followed_by-done eps b p h = p
  followed_by-done a b p h = (h, p)

  beside-done : (a b : Process C) → IsDoneTo k a → IsDoneTo k b → IsDoneTo k (beside a b)
  beside-done eps b h p = p
  beside-done a eps h p = h
  beside-done a b h p = (h, p)

  asserting-done : (c : C) (a : Process C) → IsDoneTo k a → IsDoneTo k (asserting c a)
  asserting-done c eps h = h
  asserting-done c a h = h

  with_scope-done : (x : ℕ) (v : Last) (a : Process C) → IsDoneTo k a → IsDoneTo k (with_scope x v a)
  with_scope-done x v eps h = h
  with_scope-done x v a h = h

  catching-done : (z : ℕ) (a b : Process C) → IsDoneTo k b → IsDoneTo k a → IsDoneTo k (catching z a b)
  catching-done z eps b p h = h
  catching-done z a b p h = (h, p)

  trying-done : (a b : Process C) → IsDoneTo k b → IsDoneTo k a → IsDoneTo k (trying a b)
  trying-done eps b p h = h
  trying-done a b p h = (h, p)

  seq-leaf : (b : Process C) (s : TermTree C) → IsDoneTo k b → TreeDoneTo k s → (l : TermLeaf C) → LeafDoneTo k l → TreeDoneTo k (in_seq b s l)
  seq-leaf b s p q vanish h = q
  seq-leaf b s p q nothing h = h
  seq-leaf b s p q (raised z) h = h
  seq-leaf b s p q (go cs ls n) h = followed_by-done n b p h

  joined-leaf : (cs : List C) (ls : Lasts) (n : Process C) → IsDoneTo k n → (l : TermLeaf C) → LeafDoneTo k l → TreeDoneTo k (joined cs ls n l)
  joined-leaf cs ls n p vanish h = p
  joined-leaf cs ls n p nothing h = h
  joined-leaf cs ls n p (raised z) h = h
  joined-leaf cs ls n p (go ds ms m) h = beside-done n m p h

  par-leaf : (s : TermTree C) → TreeDoneTo k s → (l : TermLeaf C) → LeafDoneTo k l → TreeDoneTo k (in_par s l)
  par-leaf s p vanish h = p
  par-leaf s p nothing h = h
  par-leaf s p (raised z) h = h
  par-leaf s p (go cs ls n) h = with_leaves-done (joined cs ls n) (joined-leaf cs ls n h) s p

  assert-leaf : (c : C) (l : TermLeaf C) → LeafDoneTo k l → TreeDoneTo k (in_assert c l)
  assert-leaf c vanish h = h
  assert-leaf c nothing h = h
  assert-leaf c (raised z) h = h
  assert-leaf c (go cs ls n) h = asserting-done c n h

  exist-leaf : (start : Value) (x : ℕ) (v : Last) (l : TermLeaf C) → LeafDoneTo k l → TreeDoneTo k (in_exist start x v l)
  exist-leaf start x v vanish h = h
  exist-leaf start x v nothing h = h
  exist-leaf start x v (raised z) h = h
  exist-leaf start x v (go cs ls n) h = with_scope-done x (kept start v) n h

  raised_by : (y : ℕ) (b : Bool) (s : TermTree C) → TreeDoneTo k s → TreeDoneTo k (if b then s else leaf (raised y))
  raised_by y true s p = p
  raised_by y false s p = tt

  catch-leaf : (z : ℕ) (b : Process C) (s : TermTree C) → IsDoneTo k b → TreeDoneTo k s → (l : TermLeaf C) → LeafDoneTo k l → TreeDoneTo k (in_catch z b s l)
  catch-leaf z b s p q vanish h = h
  catch-leaf z b s p q nothing h = h
  catch-leaf z b s p q (raised y) h = raised_by y (nat_eq y z) s q
  catch-leaf z b s p q (go cs ls n) h = catching-done z n b p h

  try-leaf : (b : Process C) → IsDoneTo k b → (l : TermLeaf C) → LeafDoneTo k l → TreeDoneTo k (in_try b l)
  try-leaf b p vanish h = h
  try-leaf b p nothing h = h
  try-leaf b p (raised z) h = h
  try-leaf b p (go cs ls n) h = trying-done n b p h

module _ {C : Type 0} (k : ℕ) (kinds : List Kind) where
  mutual
    offers_of-done : (p : Process C) → IsDoneTo k p → TreeDoneTo (suc k) (offers_of kinds p)
    offers_of-done eps h = tt
    offers_of-done dead h = tt
    offers_of-done (con c) h = tt
    offers_of-done (raise z) h = tt
    offers_of-done (seq a b) h = with_leaves-done (suc k) (in_seq b (offers_of kinds b)) (seq-leaf (suc k) b (offers_of kinds b) (one_more k b h.1) (offers_of-done b h.1)) (offers_of kinds a) (offers_of-done a h.0)
    offers_of-done (loop t) h = (with_leaves-done (suc k) (in_turn (loop t)) (seq-leaf (suc k) (loop t) (leaf nothing) (one_more k t h) tt) (offers_of kinds t) (offers_of-done t h), tt)
    offers_of-done (count i done t) h =
        let turned : IsDoneTo (suc k) (count i (suc done) t) = (omega (arith, h.0), one_more k t h.1) in
        (with_leaves-done (suc k) (in_turn (count i (suc done) t)) (seq-leaf (suc k) (count i (suc done) t) (leaf nothing) turned tt) (offers_of kinds t) (offers_of-done t h.1), (tt, tt))
    offers_of-done (any cs) h = each_offers-done cs h
    offers_of-done (pri a b) h = (offers_of-done a h.0, offers_of-done b h.1)
    offers_of-done (par a b) h = with_leaves-done (suc k) (in_par (offers_of kinds b)) (par-leaf (suc k) (offers_of kinds b) (offers_of-done b h.1)) (offers_of kinds a) (offers_of-done a h.0)
    offers_of-done (assert c t) h = with_leaves-done (suc k) (in_assert c) (assert-leaf (suc k) c) (offers_of kinds t) (offers_of-done t h)
    offers_of-done (exist x v t) h =
        with_leaves-done (suc k) (in_exist (start_of kinds x) x v) (exist-leaf (suc k) (start_of kinds x) x v) (with_local (x, v) (offers_of kinds t)) (with_local-done (suc k) (x, v) (offers_of kinds t) (offers_of-done t h))
    offers_of-done (catch z t b) h =
        with_leaves-done (suc k) (in_catch z b (offers_of kinds b)) (catch-leaf (suc k) z b (offers_of kinds b) (one_more k b h.1) (offers_of-done b h.1)) (offers_of kinds t) (offers_of-done t h.0)
    offers_of-done (try t b) h = (with_leaves-done (suc k) (in_try b) (try-leaf (suc k) b (one_more k b h.1)) (offers_of kinds t) (offers_of-done t h.0), offers_of-done b h.1)

    each_offers-done : (cs : Choices C) → AreDoneTo k cs → BranchesAll (LeafDoneTo (suc k)) (offers_of_each kinds cs)
    each_offers-done no_choice h = tt
    each_offers-done (choice w t cs) h = (offers_of-done t h.0, each_offers-done cs h.1)

pub turns_grow_by_one : TurnsGrowByOne
turns_grow_by_one k kinds p h = flattened-done (suc k) (offers_of kinds p) (offers_of-done k kinds p h)

pub few_turns_are_few : FewTurnsAreFew
few_turns_are_few k m p l h = fewer k m p l h

pub ruleset turns = (turns_grow_by_one, few_turns_are_few)
