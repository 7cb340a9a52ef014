-- What rules make of the nodes of a tree, one by one.
use Rattle.std.specs.Prelude.{ℕ, List, [], ◌∷◌}
use Rattle.lt_term.specs.declared.last.Last.{Last}
use Rattle.lt_term.specs.Tree.{Leaf, Tree, Node, leaf_node, ordered_node, weighted_node, flattened}

-- a node as a list of nodes: f of a leaf, and any other as it is
abbrev pub replaced : {C N M : Type 0} → (Leaf C N → Tree C M) → Node C N → List (Node C M)
replaced f (leaf_node l) = flattened (f l)
replaced f ordered_node = ordered_node ∷ []
replaced f (weighted_node ls ws) = weighted_node ls ws ∷ []

-- a node in whose weights one more local is in scope
abbrev pub node_with_local : {C N : Type 0} → ℕ × Last → Node C N → Node C N
node_with_local l (leaf_node k) = leaf_node k
node_with_local l ordered_node = ordered_node
node_with_local l (weighted_node ls ws) = weighted_node (l ∷ ls) ws
