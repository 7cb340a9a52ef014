use Rattle.std.proofs.Common.{◌∙◌, ◌<◌, ◌^◌, List, ap, length, map, subst, sym}
use Rattle.lt_legal.specs.Back.{IsAt}
use Rattle.lt_legal.specs.NodeView.{node_view}
use Rattle.lt_legal.specs.Nodes.{Shape}
use Rattle.lt_legal.specs.declared.node.Node.{Node}
use Rattle.lt_term.specs.TreeView.{tree_node}
use Rattle.lt_term.specs.declared.tree.TreeNode.{TreeNode}
use Rattle.lt_check.specs.inner.AskingView.{asked_tree, asked_worth}
use Rattle.lt_check.specs.inner.SeenOf.{loose_of}
use Rattle.lt_check.specs.inner.Shaped.{shape_loose, tree_from}
use Rattle.lt_check.proofs.AskingNodes.{loose_found, seen_few}
use Rattle.lt_check.proofs.asking.instants_from.Goals as goal

pub leaves_from-requires-clause-tree : goal.leaves_from-requires-clause-tree
leaves_from-requires-clause-tree c =
    let a = c.args.asking.now in
    let m = a.context.now in
    let k = c.args.number in
    let t : Shape = shape_loose (asked_worth a) (tree_from (asked_tree a) k) in
    let seen = c.in_ok-nodes.ensures.seen ∙ ap (λ (ns : List TreeNode). map (loose_of m) (map tree_node ns)) c.deref.ensures.value in
    let at = loose_found m a.term.now a.tree.now.nodes.items c.requires.asking c.in_ok-nodes.nodes.items k seen c.requires.within in
    (t, subst (λ (ns : List Node). IsAt (map node_view ns) k t) (sym c.deref-2.ensures.value) at)

pub leaves_from-requires-clause-few : goal.leaves_from-requires-clause-few
leaves_from-requires-clause-few c =
    let a = c.args.asking.now in
    let m = a.context.now in
    let seen = c.in_ok-nodes.ensures.seen ∙ ap (λ (ns : List TreeNode). map (loose_of m) (map tree_node ns)) c.deref.ensures.value in
    subst (λ (ns : List Node). length ns < 2 ^ 32) (sym c.deref-2.ensures.value) (seen_few m a.term.now a.tree.now.nodes.items c.requires.asking (loose_of m) c.in_ok-nodes.nodes.items seen)

pub returns-in-Ok-clause-instants : goal.returns-in-Ok-clause-instants
returns-in-Ok-clause-instants c =
    let a = c.args.asking.now in
    let m = a.context.now in
    let k = c.args.number in
    let t : Shape = shape_loose (asked_worth a) (tree_from (asked_tree a) k) in
    let seen = c.in_ok-nodes.ensures.seen ∙ ap (λ (ns : List TreeNode). map (loose_of m) (map tree_node ns)) c.deref.ensures.value in
    let at = loose_found m a.term.now a.tree.now.nodes.items c.requires.asking c.in_ok-nodes.nodes.items k seen c.requires.within in
    c.in-Ok.ensures.finds t (subst (λ (ns : List Node). IsAt (map node_view ns) k t) (sym c.deref-2.ensures.value) at)
