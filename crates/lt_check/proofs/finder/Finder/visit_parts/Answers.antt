use Rattle.std.proofs.Common.{◌∙◌, ◌++◌, List, ap, map, refl, subst, sym}
use Rattle.lt_marks_laws.specs.Valued.{worths}
use Rattle.lt_term.specs.Tree.{weights_of}
use Rattle.lt_term.specs.UnfoldedView.{branches_of}
use Rattle.lt_term.specs.UnfoldingView.{parts_of, scope_of}
use Rattle.lt_term.specs.declared.root.Later.{Later}
use Rattle.lt_term.proofs.Public.{grows_not}
use Rattle.lt_instant.specs.inner.DrawContextView.{weigher_of}
use Rattle.lt_check.specs.declared.memo.Memo.{Memo}
use Rattle.lt_check.specs.inner.FinderView.{tree_in}
use Rattle.lt_check.specs.inner.JudgeView.{context_of, step_of}
use Rattle.lt_check.specs.inner.MemoView.{Tells}
use Rattle.lt_check.specs.inner.QuestionView.{constraint_holds, kinds_in}
use Rattle.lt_check.specs.inner.TaskView.{visit_task}
use Rattle.lt_check.specs.inner.Visited.{positive_parts}
use Rattle.lt_check.specs.inner.Weighed.{AreWeighed}
use Rattle.lt_check.proofs.FinderTasks.{choice_spoilt, choice_waits, weights_pass}
use Rattle.lt_check.proofs.finder.Finder.visit_parts.Goals as goal

pub weigh-requires-clause-numbers : goal.weigh-requires-clause-numbers
weigh-requires-clause-numbers c =
    weights_pass (context_of c.args.question.now) c.args.self.now.unfolded c.args.choice c.requires.passes

pub returns-then-not-branch-clause-goes_on : goal.returns-then-not-branch-clause-goes_on
returns-then-not-branch-clause-goes_on c =
    let m = context_of c.args.question.now in
    let step = step_of c.args.question.now in
    let old = c.args.self.now in
    let choice = c.args.choice in
    let r = worths (weigher_of m) (scope_of old.unfolded choice.rules) (weights_of (branches_of (kinds_in m) choice.parts)) in
    let w = subst (AreWeighed r c.weigh.new.searcher.weights.items) c.if-not-branch.true c.in_ok-weigh.ensures.weighs in
    let tells = subst (λ (x : Memo). Tells (constraint_holds m step) x) (sym c.in_ok-weigh.ensures.memo) c.requires.ready.tells in
    choice_spoilt m step old _ c.requires.ready (grows_not old.unfolded) tells choice w.0 w.1 refl refl

pub returns-clause-goes_on : goal.returns-clause-goes_on
returns-clause-goes_on c =
    let m = context_of c.args.question.now in
    let step = step_of c.args.question.now in
    let old = c.args.self.now in
    let choice = c.args.choice in
    let vs = c.weigh.new.searcher.weights.items in
    let bs = parts_of (kinds_in m) old.unfolded choice.parts choice.rules in
    let r = worths (weigher_of m) (scope_of old.unfolded choice.rules) (weights_of (branches_of (kinds_in m) choice.parts)) in
    let w = subst (AreWeighed r vs) c.if-not-branch.false c.in_ok-weigh.ensures.weighs in
    let tells = subst (λ (x : Memo). Tells (constraint_holds m step) x) (sym c.in_ok-weigh.ensures.memo) c.requires.ready.tells in
    let are = c.in_ok-push_parts.ensures.parts (kinds_in m) ∙ (λ i. map (tree_in m old.unfolded) (c.clear.ensures.items i) ++ positive_parts bs (c.deref.ensures.value i)) in
    let ts = c.in_ok-push_visits.ensures ∙ ap (λ (ls : List Later). old.tasks.items ++ map visit_task ls) c.deref-2.ensures.value in
    choice_waits m step old _ c.requires.ready c.in_ok-push_parts.ensures.grows tells choice vs c.push_parts.new.trees.items w c.requires.passes are c.in_ok-push_parts.ensures.trees ts refl
