-- Trees of what can be done in one instant.
use Rattle.std.specs.Prelude.{ℕ, List, [], ◌∷◌, ◌++◌, None, Some, length, slice_get, option_and_then}
use Rattle.std.specs.declared.option.Option.{Option}
use Rattle.lt_term.specs.declared.last.Last.{Last}

-- locals in scope, each with the value that it had in the instant before
abbrev pub Lasts : Type 0
Lasts = List (ℕ × Last)

-- What can be done in one instant, with constraints C and with N for what comes next.
pub data Leaf (C N : Type 0) : Type 0 where
  -- the term is over, and takes no instant
  vanish : Leaf C N
  -- nothing
  nothing : Leaf C N
  -- it raises an exception
  raised : ℕ → Leaf C N
  -- one instant in which these constraints hold, the locals in scope, and what comes next
  go : List C → Lasts → N → Leaf C N

-- the weight of a tree to choose
pub data Weight (C : Type 0) : Type 0 where
  -- what an expression says
  expression : C → Weight C
  -- how many turns of a counter are left, of which so many are done
  more : ℕ → ℕ → Weight C
  -- 1 where so many turns of a counter are enough, and else 0
  stop : ℕ → ℕ → Weight C

mutual
  -- what a term offers
  pub data Tree (C N : Type 0) : Type 0 where
    -- one thing to do
    leaf : Leaf C N → Tree C N
    -- the left tree, or the right one where nothing can be done in the left one
    ordered : Tree C N → Tree C N → Tree C N
    -- one of these, drawn by weights in which these locals are in scope
    weighted : Lasts → Branches C N → Tree C N

  -- trees to choose from, each with its weight
  pub data Branches (C N : Type 0) : Type 0 where
    no_branch : Branches C N
    branch : Weight C → Tree C N → Branches C N → Branches C N

-- a tree with f of each leaf in place of the leaf
abbrev mutual
  pub with_leaves : {C N M : Type 0} → (Leaf C N → Tree C M) → Tree C N → Tree C M
  with_leaves f (leaf l) = f l
  with_leaves f (ordered a b) = ordered (with_leaves f a) (with_leaves f b)
  with_leaves f (weighted ls bs) = weighted ls (branches_with_leaves f bs)

  pub branches_with_leaves : {C N M : Type 0} → (Leaf C N → Tree C M) → Branches C N → Branches C M
  branches_with_leaves f no_branch = no_branch
  branches_with_leaves f (branch w t bs) = branch w (with_leaves f t) (branches_with_leaves f bs)

-- a tree in whose weights one more local is in scope
abbrev mutual
  pub with_local : {C N : Type 0} → ℕ × Last → Tree C N → Tree C N
  with_local l (leaf k) = leaf k
  with_local l (ordered a b) = ordered (with_local l a) (with_local l b)
  with_local l (weighted ls bs) = weighted (l ∷ ls) (branches_with_local l bs)

  pub branches_with_local : {C N : Type 0} → ℕ × Last → Branches C N → Branches C N
  branches_with_local l no_branch = no_branch
  branches_with_local l (branch w t bs) = branch w (with_local l t) (branches_with_local l bs)

-- A tree as the list of its nodes.

-- a node of a tree
pub data Node (C N : Type 0) : Type 0 where
  -- a leaf
  leaf_node : Leaf C N → Node C N
  -- a choice between two trees, whose nodes follow it
  ordered_node : Node C N
  -- a choice among as many trees as weights, whose nodes follow it
  weighted_node : Lasts → List (Weight C) → Node C N

-- the weights of trees to choose from
abbrev pub weights_of : {C N : Type 0} → Branches C N → List (Weight C)
weights_of no_branch = []
weights_of (branch w t bs) = w ∷ weights_of bs

-- the nodes of a tree in preorder: each node before those below it, and the left ones before the right ones
abbrev mutual
  pub flattened : {C N : Type 0} → Tree C N → List (Node C N)
  flattened (leaf l) = leaf_node l ∷ []
  flattened (ordered a b) = ordered_node ∷ (flattened a ++ flattened b)
  flattened (weighted ls bs) = weighted_node ls (weights_of bs) ∷ flattened_each bs

  pub flattened_each : {C N : Type 0} → Branches C N → List (Node C N)
  flattened_each no_branch = []
  flattened_each (branch w t bs) = flattened t ++ flattened_each bs

-- how many nodes a tree has
abbrev pub size : {C N : Type 0} → Tree C N → ℕ
size t = length (flattened t)

-- the leaf that a node is
abbrev pub leaf_of : {C N : Type 0} → Node C N → Option (Leaf C N)
leaf_of (leaf_node l) = Some l
leaf_of ordered_node = None
leaf_of (weighted_node ls ws) = None

-- the leaf at a position; positions count the nodes in preorder, from 0
abbrev pub leaf_at : {C N : Type 0} → Tree C N → ℕ → Option (Leaf C N)
leaf_at t position = option_and_then leaf_of (slice_get (flattened t) position)
