use Rattle.std.proofs.Common.{◌∙◌, ◌<◌, ◌^◌, List, ap, length, map, subst, sym}
use Rattle.std.proofs.lemmas.Result.{IfErr-weaker}
use Rattle.lt_legal.specs.Back.{IsAt}
use Rattle.lt_legal.specs.NodeView.{node_view}
use Rattle.lt_legal.specs.Nodes.{Shape}
use Rattle.lt_legal.specs.declared.node.Node.{Node}
use Rattle.lt_term.specs.TreeView.{tree_node}
use Rattle.lt_term.specs.declared.tree.TreeNode.{TreeNode}
use Rattle.lt_instant.specs.inner.DrawContextView.{scene_of}
use Rattle.lt_check.specs.inner.LookView.{look_tree, look_worth}
use Rattle.lt_check.specs.inner.SeenOf.{seen}
use Rattle.lt_check.specs.inner.Shaped.{shape_seen}
use Rattle.lt_check.specs.inner.SoughtView.{wanted}
use Rattle.lt_check.specs.inner.Wanted.{is_wanted}
use Rattle.lt_check.proofs.AskingNodes.{seen_few, whole_found}
use Rattle.lt_check.proofs.Sights.{if_ok}
use Rattle.lt_check.proofs.looking.Look.find.Goals as goal

pub leaves_from-requires-clause-tree : goal.leaves_from-requires-clause-tree
leaves_from-requires-clause-tree c =
    let look = c.args.self.now in
    let m = look.context in
    let test = is_wanted (wanted (scene_of m) c.args.sought) in
    let t : Shape = shape_seen (look_worth look) test (look_tree look) in
    let sees = c.in_ok-nodes.ensures.seen ∙ ap (λ (ns : List TreeNode). map (seen m test) (map tree_node ns)) c.deref.ensures.value in
    let at = whole_found m look.term.now look.tree.nodes.items c.requires.ready.nodes test c.in_ok-nodes.nodes.items sees in
    (t, subst (λ (ns : List Node). IsAt (map node_view ns) 0 t) (sym c.deref-2.ensures.value) at)

pub leaves_from-requires-clause-few : goal.leaves_from-requires-clause-few
leaves_from-requires-clause-few c =
    let look = c.args.self.now in
    let m = look.context in
    let test = is_wanted (wanted (scene_of m) c.args.sought) in
    let sees = c.in_ok-nodes.ensures.seen ∙ ap (λ (ns : List TreeNode). map (seen m test) (map tree_node ns)) c.deref.ensures.value in
    subst (λ (ns : List Node). length ns < 2 ^ 32) (sym c.deref-2.ensures.value) (seen_few m look.term.now look.tree.nodes.items c.requires.ready.nodes (seen m test) c.in_ok-nodes.nodes.items sees)

pub returns-clause-finds : goal.returns-clause-finds
returns-clause-finds c =
    let look = c.args.self.now in
    let m = look.context in
    let test = is_wanted (wanted (scene_of m) c.args.sought) in
    let t : Shape = shape_seen (look_worth look) test (look_tree look) in
    let sees = c.in_ok-nodes.ensures.seen ∙ ap (λ (ns : List TreeNode). map (seen m test) (map tree_node ns)) c.deref.ensures.value in
    let at = whole_found m look.term.now look.tree.nodes.items c.requires.ready.nodes test c.in_ok-nodes.nodes.items sees in
    if_ok c.leaves_from.result _ _ (λ leaves h. h t (subst (λ (ns : List Node). IsAt (map node_view ns) 0 t) (sym c.deref-2.ensures.value) at)) c.leaves_from.ensures.finds

pub returns-clause-halts : goal.returns-clause-halts
returns-clause-halts c =
    let look = c.args.self.now in
    let m = look.context in
    let test = is_wanted (wanted (scene_of m) c.args.sought) in
    let t : Shape = shape_seen (look_worth look) test (look_tree look) in
    let sees = c.in_ok-nodes.ensures.seen ∙ ap (λ (ns : List TreeNode). map (seen m test) (map tree_node ns)) c.deref.ensures.value in
    let at = whole_found m look.term.now look.tree.nodes.items c.requires.ready.nodes test c.in_ok-nodes.nodes.items sees in
    IfErr-weaker c.leaves_from.result _ _ (λ halt h. h t (subst (λ (ns : List Node). IsAt (map node_view ns) 0 t) (sym c.deref-2.ensures.value) at)) c.leaves_from.ensures.halts
