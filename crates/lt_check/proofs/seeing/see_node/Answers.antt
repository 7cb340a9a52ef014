use Rattle.std.proofs.Common.{◌∙◌, ap, length, map, sym}
use Rattle.std.proofs.lemmas.List.{length-map}
use Rattle.lt_legal.specs.Nodes.{tip}
use Rattle.lt_legal.specs.declared.node.Node.{Node}
use Rattle.lt_marks_laws.specs.Valued.{worths}
use Rattle.lt_term.specs.Evaluated.{going}
use Rattle.lt_term.specs.Mapped.{weight_mapped}
use Rattle.lt_term.specs.Process.{with_constraints}
use Rattle.lt_term.specs.TreeView.{tree_node, weight}
use Rattle.lt_term.specs.View.{process}
use Rattle.lt_term.specs.declared.tree.TreeNode.{TreeNode}
use Rattle.lt_instant.specs.inner.DrawContextView.{meaning_of, scene_of, worth_of}
use Rattle.lt_check.specs.inner.Seen.{choice_seen}
use Rattle.lt_check.specs.inner.SeenOf.{seen}
use Rattle.lt_check.specs.inner.SoughtView.{wanted}
use Rattle.lt_check.specs.inner.Wanted.{is_wanted}
use Rattle.lt_check.proofs.Sights.{if_ok}
use Rattle.lt_check.proofs.seeing.see_node.Goals as goal

pub returns-in_ok-is_sought-in-Go-clause-seen : goal.returns-in_ok-is_sought-in-Go-clause-seen
returns-in_ok-is_sought-in-Go-clause-seen c =
    let m = c.args.context.now in
    let w = wanted (scene_of m) c.args.sought in
    let n = with_constraints (meaning_of m.scenario.now.table) (process c.in-Go.next.value) in
    let cs = c.deref.ensures.value in
    let ls = c.deref-in-Go.ensures.value in
    ap (λ b. tip b)
    (c.in_ok-is_sought-in-Go.ensures.is n
    ∙ (λ i. is_wanted w (going ((worth_of m).formula (ls i) (map (meaning_of m.scenario.now.table) (cs i))) (ls i) n)))
    ∙ ap (λ (x : TreeNode). seen m (is_wanted w) (tree_node x)) (sym c.in-Go.is)

pub returns-in-Any-clause-seen : goal.returns-in-Any-clause-seen
returns-in-Any-clause-seen c =
    let m = c.args.context.now in
    let w = wanted (scene_of m) c.args.sought in
    let mean = weight_mapped (meaning_of m.scenario.now.table) in
    let ws = c.deref-in-Any.ensures.value in
    let ls = c.deref-in-Any-2.ensures.value in
    let long = sym (length-map (map weight c.in-Any.weights.items) mean ∙ length-map c.in-Any.weights.items weight) in
    if_ok c.see_choice.result _ _
    (λ (x : Node) e.
    e
    ∙ (λ i. choice_seen w.fault (worths (worth_of m).weight (ls i) (map mean (map weight (ws i)))) (length (ws i)))
    ∙ (λ i. choice_seen w.fault (worths (worth_of m).weight c.in-Any.lasts.items (map mean (map weight c.in-Any.weights.items))) (long i))
    ∙ ap (λ (x : TreeNode). seen m (is_wanted w) (tree_node x)) (sym c.in-Any.is))
    c.see_choice.ensures.seen
