use Rattle.std.proofs.Common.{◌∙◌, ◌++◌, ◌∷◌, [], List, ap, append_assoc, arith, refl, subst, sym}
use Rattle.lt_term.specs.UnfoldingView.{RootIsWithin, root_of}
use Rattle.lt_term.specs.declared.root.Root.{Root}
use Rattle.lt_term.proofs.Unfoldings.{on_ok}
use Rattle.lt_check.specs.declared.finder.Task.{Task}
use Rattle.lt_check.specs.declared.finder.Task.TheVariants as task
use Rattle.lt_check.specs.inner.FinderView.{NumbersPass}
use Rattle.lt_check.specs.inner.JudgeView.{context_of, step_of}
use Rattle.lt_check.specs.inner.QuestionView.{kinds_in}
use Rattle.lt_check.specs.inner.Visited.{visit}
use Rattle.lt_check.proofs.FinderSteps.{goes_further, still_ready}
use Rattle.lt_check.proofs.FinderTasks.{leaf_same, order_waits}
use Rattle.lt_check.proofs.finder.Finder.visit.Goals as goal

pub unfold-requires : goal.unfold-requires
unfold-requires c = c.requires.fit.within

pub visit_leaf-requires-clause-ready : goal.visit_leaf-requires-clause-ready
visit_leaf-requires-clause-ready c =
    still_ready (context_of c.args.question.now) (step_of c.args.question.now) c.args.self.now _ c.requires.ready c.in_ok-offer.ensures.grows c.requires.ready.tells refl refl

pub visit_leaf-requires-clause-within : goal.visit_leaf-requires-clause-within
visit_leaf-requires-clause-within c = subst (λ (r : Root). RootIsWithin c.unfold.new.self r) c.in-Leaf.is c.in_ok-offer.ensures.within

pub visit_leaf-requires-clause-passes : goal.visit_leaf-requires-clause-passes
visit_leaf-requires-clause-passes c =
    let m = context_of c.args.question.now in
    let u = c.unfold.new.self in
    let is = sym (leaf_same m u c.in-Leaf.offer) ∙ ap (root_of (kinds_in m) u) (sym c.in-Leaf.is) ∙ c.in_ok-offer.ensures.tree (kinds_in m) in
    subst (NumbersPass m) (sym is) c.requires.fit.passes

pub visit_parts-requires-clause-ready : goal.visit_parts-requires-clause-ready
visit_parts-requires-clause-ready c =
    still_ready (context_of c.args.question.now) (step_of c.args.question.now) c.args.self.now _ c.requires.ready c.in_ok-offer.ensures.grows c.requires.ready.tells refl refl

pub visit_parts-requires-clause-within : goal.visit_parts-requires-clause-within
visit_parts-requires-clause-within c =
    subst (λ (r : Root). RootIsWithin c.unfold.new.self r) c.in-Choice.is c.in_ok-offer.ensures.within

pub visit_parts-requires-clause-passes : goal.visit_parts-requires-clause-passes
visit_parts-requires-clause-passes c =
    let m = context_of c.args.question.now in
    let is = ap (root_of (kinds_in m) c.unfold.new.self) (sym c.in-Choice.is) ∙ c.in_ok-offer.ensures.tree (kinds_in m) in
    subst (NumbersPass m) (sym is) c.requires.fit.passes

pub returns-in-Leaf-clause-goes_on : goal.returns-in-Leaf-clause-goes_on
returns-in-Leaf-clause-goes_on c =
    let m = context_of c.args.question.now in
    let u = c.unfold.new.self in
    let is = sym (leaf_same m u c.in-Leaf.offer) ∙ ap (root_of (kinds_in m) u) (sym c.in-Leaf.is) ∙ c.in_ok-offer.ensures.tree (kinds_in m) in
    on_ok c.visit_leaf.result
    (goes_further m (step_of c.args.question.now) c.args.self.now _ c.requires.ready c.in_ok-offer.ensures.grows c.requires.ready.tells _ _ _ refl refl (ap visit is)) c.visit_leaf.ensures.goes_on

pub returns-in_ok-push-in-Order-2-clause-goes_on : goal.returns-in_ok-push-in-Order-2-clause-goes_on
returns-in_ok-push-in-Order-2-clause-goes_on c =
    let m = context_of c.args.question.now in
    let old = c.args.self.now in
    let u = c.unfold.new.self in
    let is = ap (root_of (kinds_in m) u) (sym c.in-Order.is) ∙ c.in_ok-offer.ensures.tree (kinds_in m) in
    let there = subst (λ (r : Root). RootIsWithin u r) c.in-Order.is c.in_ok-offer.ensures.within in
    let right_task = task.Right c.in-Order.left c.in-Order.right c.len-found.result in
    let ts = c.in_ok-push-in-Order-2.ensures.items ∙ ap (λ (xs : List Task). xs ++ task.Visit c.in-Order.left ∷ []) c.in_ok-push-in-Order.ensures.items ∙ append_assoc old.tasks.items (right_task ∷ []) (task.Visit c.in-Order.left ∷ []) in
    order_waits m (step_of c.args.question.now) old _ c.requires.ready c.in_ok-offer.ensures.grows c.requires.ready.tells c.in-Order.left c.in-Order.right c.len-found.result _ (omega (arith, c.len-found.ensures, old.found.ok.0)) is c.requires.fit.passes there.0 there.1 ts refl

pub returns-in-Choice-clause-goes_on : goal.returns-in-Choice-clause-goes_on
returns-in-Choice-clause-goes_on c =
    let m = context_of c.args.question.now in
    let is = ap (root_of (kinds_in m) c.unfold.new.self) (sym c.in-Choice.is) ∙ c.in_ok-offer.ensures.tree (kinds_in m) in
    on_ok c.visit_parts.result
    (goes_further m (step_of c.args.question.now) c.args.self.now _ c.requires.ready c.in_ok-offer.ensures.grows c.requires.ready.tells _ _ _ refl refl (ap visit is)) c.visit_parts.ensures.goes_on
