use Rattle.std.proofs.Common.{◌∙◌, List, ap, map}
use Rattle.lt_legal.specs.NodeView.{node_view}
use Rattle.lt_legal.specs.Nodes.{found_at, run}
use Rattle.lt_legal.specs.declared.found.Found.{Found}
use Rattle.lt_term.specs.TreeView.{tree_node}
use Rattle.lt_term.specs.declared.tree.TreeNode.{TreeNode}
use Rattle.lt_check.specs.inner.SeenOf.{seen}
use Rattle.lt_check.specs.inner.Wanted.{for_free, is_wanted}
use Rattle.lt_check.proofs.AskingNodes.{told_found}
use Rattle.lt_check.proofs.asking.is_free.Goals as goal

pub returns-clause-is : goal.returns-clause-is
returns-clause-is c =
    let a = c.args.asking.now in
    let m = a.context.now in
    ap (λ (f : Found). f.has)
    (c.find_at.ensures
    ∙ (λ i. found_at (c.deref-3.ensures.value i) c.args.number)
    ∙ (λ i. found_at (c.fill.ensures.table i) c.args.number)
    ∙ (λ i. found_at (run (map node_view (c.deref-2.ensures.value i))) c.args.number))
    ∙ told_found m a.term.now a.tree.now.nodes.items c.requires.asking (is_wanted for_free) c.in_ok-nodes.nodes.items c.args.number
    (c.in_ok-nodes.ensures.seen ∙ ap (λ (ns : List TreeNode). map (seen m (is_wanted for_free)) (map tree_node ns)) c.deref.ensures.value)
