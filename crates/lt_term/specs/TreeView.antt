-- What trees of the code stand for.
use Rattle.std.specs.Prelude.{ℕ, List, map}
use Rattle.lt_term.specs.Process.{Process}
use Rattle.lt_term.specs.Tree.{Weight, expression, more, stop, Node, leaf_node, ordered_node, weighted_node, vanish, nothing, raised, go}
use Rattle.lt_term.specs.View.{process}
use Rattle.lt_term.specs.declared.tree.Weight as code
use Rattle.lt_term.specs.declared.tree.Weight.TheVariants as weights
use Rattle.lt_term.specs.declared.tree.TreeNode.{TreeNode}
use Rattle.lt_term.specs.declared.tree.TreeNode.TheVariants as nodes

-- the weight of a tree to choose
abbrev pub weight : code.Weight → Weight ℕ
weight (weights.Exp e) = expression e
weight (weights.More i done) = more i done
weight (weights.Stop i done) = stop i done

-- a node of a tree
abbrev pub tree_node : TreeNode → Node ℕ (Process ℕ)
tree_node nodes.Vanish = leaf_node vanish
tree_node nodes.None = leaf_node nothing
tree_node (nodes.Raise z) = leaf_node (raised z)
tree_node (nodes.Go constraints lasts next) = leaf_node (go constraints.items lasts.items (process next.value))
tree_node nodes.Pri = ordered_node
tree_node (nodes.Any ws lasts) = weighted_node lasts.items (map weight ws.items)

-- the nodes of a tree
abbrev pub tree_nodes : List TreeNode → List (Node ℕ (Process ℕ))
tree_nodes ns = map tree_node ns
