use Rattle.std.proofs.Common.{suc, List, All, subst, sym}
use Rattle.lt_term.specs.Counted.{IsDoneTo}
use Rattle.lt_term.specs.TreeView.{tree_node, tree_nodes}
use Rattle.lt_term.specs.Turns.{NextIsDoneTo}
use Rattle.lt_term.specs.View.{process, kinds_of}
use Rattle.lt_term.specs.declared.term.Term.{Term}
use Rattle.lt_term.specs.declared.tree.TreeNode.{TreeNode}
use Rattle.lt_marks_tests.proofs.Behind.{next_done}
use Rattle.lt_marks_tests.proofs.run.term_behind.Goals as goal

pub returns-in-Some-Go : goal.returns-in-Some-Go
returns-in-Some-Go c = λ k done.
    let kinds = kinds_of c.args.scenario.now.locals.items in
    let offered = c.turns_grow_by_one.ensures.grow k kinds (process c.args.term.now) done in
    let all = subst (All (NextIsDoneTo (suc k))) (sym c.in_ok-tree.ensures.numbers) offered in
    let each = subst (λ (nodes : List TreeNode). All (NextIsDoneTo (suc k)) (tree_nodes nodes)) (sym c.deref.ensures.value) all in
    let node = c.in-Some-Go.field-0.now in
    let found = c.in-Some-Go.ensures.lookup.3 in
    let behind = next_done (suc k) c.deref.result.now c.args.place node each found.0 (found.1 node) in
    let done_next : IsDoneTo (suc k) (process c.in-Some-Go.next.value) = subst (λ (n : TreeNode). NextIsDoneTo (suc k) (tree_node n)) c.in-Some-Go.field-0-is behind in
    c.in_ok-advance-in-Some-Go.ensures.done (suc k) (subst (λ (t : Term). IsDoneTo (suc k) (process t)) (sym c.deref-in-Some-Go.ensures) done_next)
