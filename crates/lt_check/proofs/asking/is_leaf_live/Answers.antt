use Rattle.std.proofs.Common.{◌∙◌, ◌≤◌, Bool, IfErr, IsTrue, List, Option, ap, length, map, refl, subst, sym}
use Rattle.std.specs.Prelude.{slice_get}
use Rattle.std.specs.List.{list_all}
use Rattle.std.proofs.lemmas.Option.{slice_get_read}
use Rattle.lt_legal.specs.Asked.{IsHaltOf}
use Rattle.lt_term.specs.Mapped.{node_passes}
use Rattle.lt_term.specs.SceneView.{numbers_of}
use Rattle.lt_term.specs.TreeView.{tree_node}
use Rattle.lt_term.specs.declared.tree.TreeNode.{TreeNode}
use Rattle.lt_instant.specs.inner.DrawContextView.{scene_of, worth_of}
use Rattle.lt_check.specs.inner.Finding.{ExpressionNode, NodeMayGiveUp, is_node_alive}
use Rattle.lt_check.proofs.AskingNodes.{node_there, none_there}
use Rattle.lt_check.proofs.Sights.{all_at, if_ok}
use Rattle.lt_check.proofs.asking.is_leaf_live.Goals as goal

pub returns-in-None-clause-told : goal.returns-in-None-clause-told
returns-in-None-clause-told c =
    let a = c.args.asking.now in
    let m = a.context.now in
    let past = subst (λ (ns : List TreeNode). length ns ≤ c.args.number) c.deref.ensures.value c.in-None.ensures.lookup.3 in
    ap (λ (o : Option ExpressionNode). is_node_alive (scene_of m) (worth_of m) o) (sym (none_there m a.term.now a.tree.now.nodes.items c.requires.asking c.args.number past))

pub is_node_live-requires-clause-passes : goal.is_node_live-requires-clause-passes
is_node_live-requires-clause-passes c =
    let a = c.args.asking.now in
    let test = node_passes (numbers_of a.context.now.scenario.now) in
    let all = subst (λ (ns : List TreeNode). IsTrue (list_all test (map tree_node ns))) (sym c.deref.ensures.value) c.requires.asking.passes in
    all_at test tree_node c.deref.result.now c.args.number c.in-Some.node.now c.in-Some.node.now c.in-Some.ensures.lookup.3.0 c.in-Some.ensures.lookup.1 all

pub returns-in-Some-clause-told : goal.returns-in-Some-clause-told
returns-in-Some-clause-told c =
    let a = c.args.asking.now in
    let m = a.context.now in
    let nodes = a.tree.now.nodes.items in
    let x = c.in-Some.node.now in
    let read = slice_get_read c.deref.result.now (length c.deref.result.now) c.args.number x refl c.in-Some.ensures.lookup.3.0 c.in-Some.ensures.lookup.1 in
    let there = node_there m a.term.now nodes c.requires.asking c.args.number x (ap (λ (ns : List TreeNode). slice_get ns c.args.number) (sym c.deref.ensures.value) ∙ read) in
    if_ok c.is_node_live.result _ _ (λ (b : Bool) e. e ∙ ap (λ (o : Option ExpressionNode). is_node_alive (scene_of m) (worth_of m) o) (sym there)) c.is_node_live.ensures.told

pub returns-in-Some-clause-halts : goal.returns-in-Some-clause-halts
returns-in-Some-clause-halts c =
    let a = c.args.asking.now in
    let m = a.context.now in
    let nodes = a.tree.now.nodes.items in
    let x = c.in-Some.node.now in
    let read = slice_get_read c.deref.result.now (length c.deref.result.now) c.args.number x refl c.in-Some.ensures.lookup.3.0 c.in-Some.ensures.lookup.1 in
    let there = node_there m a.term.now nodes c.requires.asking c.args.number x (ap (λ (ns : List TreeNode). slice_get ns c.args.number) (sym c.deref.ensures.value) ∙ read) in
    subst (λ (o : Option ExpressionNode). IfErr c.is_node_live.result (IsHaltOf (NodeMayGiveUp (scene_of m) (worth_of m) m.budget o))) (sym there) c.is_node_live.ensures.halts
