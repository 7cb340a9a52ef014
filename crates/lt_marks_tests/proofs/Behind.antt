-- What comes next behind an instant of a tree.
use Rattle.std.proofs.Common.{◌≡◌, ◌<◌, ◌∙◌, ℕ, List, All, ap, arith, get_or, length, map, subst, sym}
use Rattle.std.proofs.lemmas.List.{get_or-map, length-map}
use Rattle.lt_term.specs.TreeView.{tree_node, tree_nodes}
use Rattle.lt_term.specs.Turns.{NextIsDoneTo}
use Rattle.lt_term.specs.declared.tree.TreeNode.{TreeNode}

-- what holds behind all nodes of a tree holds behind one that is read
pub next_done : (k : ℕ) (nodes : List TreeNode) (i : ℕ) (node : TreeNode) → All (NextIsDoneTo k) (tree_nodes nodes) → i < length nodes → node ≡ get_or nodes i node → NextIsDoneTo k (tree_node node)
next_done k nodes i node all l is =
    let many : length (map tree_node nodes) ≡ length nodes = length-map nodes tree_node in
    subst (NextIsDoneTo k) (get_or-map tree_node nodes i node (tree_node node) l ∙ ap tree_node (sym is)) (all i (tree_node node) (omega (arith, many, l)))
