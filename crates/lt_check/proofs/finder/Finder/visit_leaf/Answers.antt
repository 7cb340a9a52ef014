use Rattle.std.proofs.Common.{◌∙◌, refl, subst, sym}
use Rattle.lt_term.specs.Tree.{leaf}
use Rattle.lt_term.specs.Unfolded.{going}
use Rattle.lt_term.specs.UnfoldingView.{OfferIsWithin, instant_in}
use Rattle.lt_term.specs.declared.root.Offer.{Offer}
use Rattle.lt_term.proofs.Public.{grows_not}
use Rattle.lt_check.specs.inner.FinderView.{NumbersPass}
use Rattle.lt_check.specs.inner.JudgeView.{context_of, step_of}
use Rattle.lt_check.specs.inner.QuestionView.{kinds_in, leaf_in}
use Rattle.lt_check.proofs.FinderTasks.{constraints_pass, leaf_not, leaf_taken, not_going}
use Rattle.lt_check.proofs.finder.Finder.visit_leaf.Goals as goal

pub returns-in_default : goal.returns-in_default
returns-in_default c =
    let m = context_of c.args.question.now in
    let step = step_of c.args.question.now in
    let u = c.args.self.now.unfolded in
    record {
      goes_on = leaf_not m step c.args.self.now c.args.self.now c.requires.ready (grows_not u) c.requires.ready.tells (leaf_in m u c.args.offer) refl refl (not_going m step u c.args.offer c.in_default.not-Go);
      searcher = c.requires.searcher;
    }

pub passes-requires-clause-numbers : goal.passes-requires-clause-numbers
passes-requires-clause-numbers c =
    let m = context_of c.args.question.now in
    let u = c.args.self.now.unfolded in
    constraints_pass m u c.in-Go.instant (subst (λ (o : Offer). NumbersPass m (leaf (leaf_in m u o))) c.in-Go.is c.requires.passes)

pub returns-then-not-branch-clause-goes_on : goal.returns-then-not-branch-clause-goes_on
returns-then-not-branch-clause-goes_on c =
    let m = context_of c.args.question.now in
    let u = c.args.self.now.unfolded in
    rw (c.in-Go.is)
    (leaf_not m (step_of c.args.question.now) c.args.self.now _ c.requires.ready (grows_not u) c.in_ok-passes.ensures.tells (going (instant_in (kinds_in m) u c.in-Go.instant)) refl refl (sym c.if-not-branch.true ∙ c.in_ok-passes.ensures.passes))

pub returns-clause-goes_on : goal.returns-clause-goes_on
returns-clause-goes_on c =
    let m = context_of c.args.question.now in
    let u = c.args.self.now.unfolded in
    let there = subst (λ (o : Offer). OfferIsWithin u o) c.in-Go.is c.requires.within in
    rw (c.in-Go.is)
    (leaf_taken m (step_of c.args.question.now) c.args.self.now _ c.requires.ready (grows_not u) c.in_ok-passes.ensures.tells c.in-Go.instant there refl c.in_ok-push.ensures.items (sym c.if-not-branch.false ∙ c.in_ok-passes.ensures.passes))
