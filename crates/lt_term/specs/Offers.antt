-- What a term offers in one instant, as a tree.
use Rattle.std.specs.Prelude.{ℕ, suc, List, [], ◌∷◌, ◌++◌, nat_eq, if◌then◌else◌, pos, slice_index_or}
use Rattle.lt_num.specs.Value.{value_of}
use Rattle.lt_num.specs.declared.kind.Kind.{Kind}
use Rattle.lt_num.specs.declared.kind.Kind.TheVariants as kind
use Rattle.lt_num.specs.declared.value.Value.{Value}
use Rattle.lt_term.specs.declared.last.Last.{Last}
use Rattle.lt_term.specs.Process.{Process, eps, dead, con, raise, seq, loop, count, any, pri, par, assert, exist, catch, try, Choices, no_choice, choice}
use Rattle.lt_term.specs.Tree.{Lasts, Leaf, vanish, nothing, raised, go, expression, more, stop, Tree, leaf, ordered, weighted, Branches, no_branch, branch, with_leaves, with_local}
use Rattle.lt_term.specs.Next.{followed_by, beside, asserting, with_scope, catching, trying, kept}

-- what the leaves and the trees of terms are
abbrev pub TermLeaf : Type 0 → Type 0
TermLeaf C = Leaf C (Process C)

abbrev pub TermTree : Type 0 → Type 0
TermTree C = Tree C (Process C)

-- the value of a local, of these kinds, that has had none: false or 0
abbrev pub start_of : List Kind → ℕ → Value
start_of kinds x = value_of (slice_index_or kinds x kind.Bool) (pos 0)

-- What the rule of a term makes of a leaf of its part.

-- a sequence: the second part, whose tree is given, comes after the first
abbrev pub in_seq : {C : Type 0} → Process C → TermTree C → TermLeaf C → TermTree C
in_seq b second vanish = second
in_seq b second (go cs ls n) = leaf (go cs ls (followed_by n b))
in_seq b second l = leaf l

-- one turn of a loop, which begins anew after it; a turn that takes no instant is none
abbrev pub in_turn : {C : Type 0} → Process C → TermLeaf C → TermTree C
in_turn again l = in_seq again (leaf nothing) l

-- an instant of the first side, with a leaf of the second one
abbrev pub joined : {C : Type 0} → List C → Lasts → Process C → TermLeaf C → TermTree C
joined cs ls n vanish = leaf (go cs ls n)
joined cs ls n (go ds ms m) = leaf (go (cs ++ ds) (ls ++ ms) (beside n m))
joined cs ls n l = leaf l

-- two sides at once: the second one's tree, with an instant of the first one if it has one
abbrev pub in_par : {C : Type 0} → TermTree C → TermLeaf C → TermTree C
in_par second vanish = second
in_par second (go cs ls n) = with_leaves (joined cs ls n) second
in_par second l = leaf l

-- a constraint
abbrev pub in_assert : {C : Type 0} → C → TermLeaf C → TermTree C
in_assert c (go cs ls n) = leaf (go (c ∷ cs) ls (asserting c n))
in_assert c l = leaf l

-- a local variable, and the value that it keeps where it had none
abbrev pub in_exist : {C : Type 0} → Value → ℕ → Last → TermLeaf C → TermTree C
in_exist start x v (go cs ls n) = leaf (go cs ((x, v) ∷ ls) (with_scope x (kept start v) n))
in_exist start x v l = leaf l

-- a handler, whose tree is given
abbrev pub in_catch : {C : Type 0} → ℕ → Process C → TermTree C → TermLeaf C → TermTree C
in_catch z h handler (go cs ls n) = leaf (go cs ls (catching z n h))
in_catch z h handler (raised y) = if nat_eq y z then handler else leaf (raised y)
in_catch z h handler l = leaf l

-- what has another term for where nothing can be done
abbrev pub in_try : {C : Type 0} → Process C → TermLeaf C → TermTree C
in_try h (go cs ls n) = leaf (go cs ls (trying n h))
in_try h l = leaf l

-- The tree of a term whose locals have these kinds, a line each.
--
-- A loop goes through its part once more where the part can take an instant, and else it is over. What raises an
-- exception or can do nothing stays so on either side of two at once, and the first side is heard first. A handler is
-- outside its own catch.
abbrev mutual
  pub offers_of : {C : Type 0} → List Kind → Process C → TermTree C
  offers_of kinds eps = leaf vanish
  offers_of kinds dead = leaf nothing
  offers_of kinds (con c) = leaf (go (c ∷ []) [] eps)
  offers_of kinds (raise z) = leaf (raised z)
  offers_of kinds (seq a b) = with_leaves (in_seq b (offers_of kinds b)) (offers_of kinds a)
  offers_of kinds (loop t) = ordered (with_leaves (in_turn (loop t)) (offers_of kinds t)) (leaf vanish)
  offers_of kinds (count i done t) = weighted [] (branch (more i done) (with_leaves (in_turn (count i (suc done) t)) (offers_of kinds t)) (branch (stop i done) (leaf vanish) no_branch))
  offers_of kinds (any cs) = weighted [] (offers_of_each kinds cs)
  offers_of kinds (pri a b) = ordered (offers_of kinds a) (offers_of kinds b)
  offers_of kinds (par a b) = with_leaves (in_par (offers_of kinds b)) (offers_of kinds a)
  offers_of kinds (assert c t) = with_leaves (in_assert c) (offers_of kinds t)
  offers_of kinds (exist x v t) = with_leaves (in_exist (start_of kinds x) x v) (with_local (x, v) (offers_of kinds t))
  offers_of kinds (catch z t h) = with_leaves (in_catch z h (offers_of kinds h)) (offers_of kinds t)
  offers_of kinds (try t h) = ordered (with_leaves (in_try h) (offers_of kinds t)) (offers_of kinds h)

  pub offers_of_each : {C : Type 0} → List Kind → Choices C → Branches C (Process C)
  offers_of_each kinds no_choice = no_branch
  offers_of_each kinds (choice c t cs) = branch (expression c) (offers_of kinds t) (offers_of_each kinds cs)
