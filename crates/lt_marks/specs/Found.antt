-- What stands at a path is a node of the tree.
use Rattle.std.specs.Prelude.{◌≡◌, ◌≢◌, ℕ, List, ◌∷◌, ◌++◌}
use Rattle.lt_term.specs.Offers.{TermLeaf, TermTree}
use Rattle.lt_term.specs.Process.{Process}
use Rattle.lt_term.specs.Tree.{Lasts, nothing, Weight, Node, leaf_node, weighted_node, flattened}
use Rattle.lt_marks.specs.Path.{at_leaf, at_weighted, at_path}

-- a node is among these
abbrev pub IsAmong : Node ℕ (Process ℕ) → List (Node ℕ (Process ℕ)) → Type 0
IsAmong n ns = (before : List (Node ℕ (Process ℕ))) × (after : List (Node ℕ (Process ℕ))) ×
    (ns ≡ before ++ n ∷ after)

-- A leaf at a path is among the nodes of the tree, but for one of nothing, to which choices lead
-- that there aren't.
abbrev pub LeavesAreNodes : Type 0
LeavesAreNodes = (t : TermTree ℕ) (ks js : List ℕ) (l : TermLeaf ℕ) → l ≢ nothing →
    at_path t ks ≡ at_leaf l js → IsAmong (leaf_node l) (flattened t)

-- So is a choice by weight.
abbrev pub WeightsAreNodes : Type 0
WeightsAreNodes = (t : TermTree ℕ) (ks : List ℕ) (ls : Lasts) (ws : List (Weight ℕ)) →
    at_path t ks ≡ at_weighted ls ws → IsAmong (weighted_node ls ws) (flattened t)
