use Rattle.std.proofs.Common.{◌∙◌, ◌++◌, ℕ, List, ap, refl, subst}
use Rattle.lt_marks_laws.specs.Valued.{worths}
use Rattle.lt_term.specs.Tree.{weights_of}
use Rattle.lt_term.specs.UnfoldedView.{branches_of}
use Rattle.lt_term.specs.UnfoldingView.{parts_of, scope_of}
use Rattle.lt_term.proofs.Public.{grows_not}
use Rattle.lt_instant.specs.inner.DrawContextView.{weigher_of}
use Rattle.lt_check.specs.declared.finder.Finder.{Finder}
use Rattle.lt_check.specs.inner.FinderView.{waiting_in}
use Rattle.lt_check.specs.inner.JudgeView.{context_of}
use Rattle.lt_check.specs.inner.QuestionView.{kinds_in}
use Rattle.lt_check.specs.inner.Visited.{positive_parts}
use Rattle.lt_check.specs.inner.Weighed.{AreWeighed}
use Rattle.lt_check.proofs.FinderLives.{choice_life, spoilt_lives}
use Rattle.lt_check.proofs.FinderTasks.{weights_pass}
use Rattle.lt_check.proofs.finder.Finder.choice_lives.Goals as goal

pub weigh-requires-clause-numbers : goal.weigh-requires-clause-numbers
weigh-requires-clause-numbers c =
    weights_pass (context_of c.args.question.now) c.args.self.now.unfolded c.args.choice c.requires.passes

pub returns-then-not-branch-clause-lives : goal.returns-then-not-branch-clause-lives
returns-then-not-branch-clause-lives c =
    let m = context_of c.args.question.now in
    let u = c.args.self.now.unfolded in
    let choice = c.args.choice in
    let r = worths (weigher_of m) (scope_of u choice.rules) (weights_of (branches_of (kinds_in m) choice.parts)) in
    let w = subst (AreWeighed r c.weigh.new.searcher.weights.items) c.if-not-branch.true c.in_ok-weigh.ensures.weighs in
    spoilt_lives m u choice w.0 w.1

pub returns-then-not-branch-clause-stays : goal.returns-then-not-branch-clause-stays
returns-then-not-branch-clause-stays c =
    record { tasks = refl; found = refl; memo = c.in_ok-weigh.ensures.memo; grows = grows_not c.args.self.now.unfolded }

pub returns-clause-lives : goal.returns-clause-lives
returns-clause-lives c =
    let m = context_of c.args.question.now in
    let old = c.args.self.now in
    let choice = c.args.choice in
    let vs = c.weigh.new.searcher.weights.items in
    let bs = parts_of (kinds_in m) old.unfolded choice.parts choice.rules in
    let new : Finder = record old { unfolded = c.push_parts.new.unfolded; judge = c.weigh.new.self; waiting = c.push_parts.new.trees } in
    let r = worths (weigher_of m) (scope_of old.unfolded choice.rules) (weights_of (branches_of (kinds_in m) choice.parts)) in
    let w = subst (AreWeighed r vs) c.if-not-branch.false c.in_ok-weigh.ensures.weighs in
    let are = c.in_ok-push_parts.ensures.parts (kinds_in m) ∙ ap (λ (ws : List ℕ). waiting_in m old ++ positive_parts bs ws) c.deref.ensures.value in
    choice_life m old new c.in_ok-push_parts.ensures.grows c.requires.waiting choice vs w c.requires.passes are c.in_ok-push_parts.ensures.trees
