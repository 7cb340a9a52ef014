-- How many nodes the tree of a term has, without the tree.
use Rattle.std.specs.Prelude.{◌≡◌, ℕ, suc, ◌+◌, min, nat_eq, if◌then◌else◌, List}
use Rattle.lt_num.specs.declared.kind.Kind.{Kind}
use Rattle.lt_term.specs.Limits.{most_tree_nodes}
use Rattle.lt_term.specs.Offers.{offers_of}
use Rattle.lt_term.specs.Process.{Process, eps, dead, con, raise, seq, loop, count, any, pri, par, assert, exist, catch, try, Choices, no_choice, choice}
use Rattle.lt_term.specs.Tree.{Leaf, vanish, nothing, raised, go, Tree, leaf, ordered, weighted, Branches, no_branch, branch, size}

-- a number up to one more than a tree may have nodes; greater ones count as that
abbrev pub capped : ℕ → ℕ
capped n = min n (suc most_tree_nodes)

-- what each kind of node weighs
pub record Weights : Type 0 where
  -- a choice of either kind, and a leaf at which nothing can be done
  pub other : ℕ
  pub vanish : ℕ
  pub go : ℕ
  -- a leaf that raises an exception
  pub raise : ℕ → ℕ

-- each node weighs 1
abbrev pub each_one : Weights
each_one = record { other = 1; vanish = 1; go = 1; raise = λ z. 1 }

-- what a leaf weighs
abbrev pub leaf_weight : {C N : Type 0} → Weights → Leaf C N → ℕ
leaf_weight w vanish = w.vanish
leaf_weight w nothing = w.other
leaf_weight w (raised z) = w.raise z
leaf_weight w (go cs ls n) = w.go

-- what a tree weighs
abbrev mutual
  pub tree_weight : {C N : Type 0} → Weights → Tree C N → ℕ
  tree_weight w (leaf l) = leaf_weight w l
  tree_weight w (ordered a b) = w.other + (tree_weight w a + tree_weight w b)
  tree_weight w (weighted ls bs) = w.other + branches_weight w bs

  pub branches_weight : {C N : Type 0} → Weights → Branches C N → ℕ
  branches_weight w no_branch = 0
  branches_weight w (branch x t bs) = tree_weight w t + branches_weight w bs

-- the weights with another one for an exception
abbrev pub with_raise : Weights → ℕ → ℕ → Weights
with_raise w z n = record w { raise = λ y. if nat_eq y z then n else w.raise y }

-- What the tree of a term weighs, a line each: where a leaf is replaced by a tree, the leaf weighs what the tree weighs.
abbrev mutual
  pub weight_of : {C : Type 0} → Weights → Process C → ℕ
  weight_of w eps = w.vanish
  weight_of w dead = w.other
  weight_of w (con c) = w.go
  weight_of w (raise z) = w.raise z
  weight_of w (seq a b) = weight_of (record w { vanish = weight_of w b }) a
  weight_of w (loop t) = w.other + (weight_of (record w { vanish = w.other }) t + w.vanish)
  weight_of w (count i done t) = w.other + (weight_of (record w { vanish = w.other }) t + w.vanish)
  weight_of w (any cs) = w.other + weight_of_each w cs
  weight_of w (pri a b) = w.other + (weight_of w a + weight_of w b)
  weight_of w (par a b) = weight_of (record w { vanish = weight_of w b; go = weight_of (record w { vanish = w.go }) b }) a
  weight_of w (assert c t) = weight_of w t
  weight_of w (exist x v t) = weight_of w t
  weight_of w (catch z t h) = weight_of (with_raise w z (weight_of w h)) t
  weight_of w (try t h) = w.other + (weight_of w t + weight_of w h)

  pub weight_of_each : {C : Type 0} → Weights → Choices C → ℕ
  weight_of_each w no_choice = 0
  weight_of_each w (choice x t cs) = weight_of w t + weight_of_each w cs

-- The tree of a term has as many nodes as the term weighs where each one weighs 1.
abbrev pub SizeIsWeight : Type 0
SizeIsWeight = (kinds : List Kind) (p : Process ℕ) → size (offers_of kinds p) ≡ weight_of each_one p
