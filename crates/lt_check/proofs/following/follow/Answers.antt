use Rattle.std.proofs.Common.{◌∙◌, IsTrue, subst, sym}
use Rattle.std.proofs.lemmas.Result.{IfOk-weaker}
use Rattle.lt_legal.specs.declared.halt.Halt.TheVariants as halt
use Rattle.lt_term.specs.SceneView.{numbers_of}
use Rattle.lt_term.specs.View.{process}
use Rattle.lt_term.specs.Within.{passes}
use Rattle.lt_term.specs.declared.scenario.Scenario.{Scenario}
use Rattle.lt_check.specs.declared.following.Following.{Following}
use Rattle.lt_check.specs.declared.memo.Memo.{Memo}
use Rattle.lt_check.specs.inner.Fitting.{IsShownIn}
use Rattle.lt_check.specs.inner.MemoView.{Tells}
use Rattle.lt_check.specs.inner.MomentHolds.{moment_holds}
use Rattle.lt_check.specs.inner.MomentView.{IsFollowingHalt}
use Rattle.lt_check.specs.inner.SearcherView.{IsSearcherOf}
use Rattle.lt_check.specs.inner.TermSet.{terms_of}
use Rattle.lt_check.proofs.FollowingFinds.{finds_followed, holds_is}
use Rattle.lt_check.proofs.FollowingLooks.{passed_on}
use Rattle.lt_check.proofs.following.follow.Goals as goal

pub find-requires-clause-searcher : goal.find-requires-clause-searcher
find-requires-clause-searcher c =
    subst (λ (s : Scenario). IsSearcherOf s c.args.following.searcher) (sym c.context-context.ensures.scenario) c.requires.searcher

pub find-requires-clause-shown : goal.find-requires-clause-shown
find-requires-clause-shown c =
    subst (λ (s : Scenario). IsShownIn s c.args.step.now) (sym c.context-context.ensures.scenario) c.requires.shown

pub find-requires-clause-tells : goal.find-requires-clause-tells
find-requires-clause-tells c =
    let x = c.context-context.ensures in
    subst (λ holds. Tells holds c.args.following.finder.judge.memo) (sym (holds_is c.args.moment.now c.context-context.result x.scenario x.past x.inputs c.args.step.now)) c.requires.tells

pub find-requires-clause-counted : goal.find-requires-clause-counted
find-requires-clause-counted c = c.is_counted.ensures c.if-not-is_counted.false

pub find-requires-clause-passes : goal.find-requires-clause-passes
find-requires-clause-passes c =
    subst (λ (s : Scenario). IsTrue (passes (numbers_of s) (process c.args.term.now))) (sym c.context-context.ensures.scenario) c.requires.passes

pub follow_by_look-requires-clause-searcher : goal.follow_by_look-requires-clause-searcher
follow_by_look-requires-clause-searcher c =
    subst (λ (s : Scenario). IsSearcherOf s c.find.new.searcher) c.context-context.ensures.scenario c.in_ok-find.ensures.searcher

pub follow_by_look-requires-clause-small : goal.follow_by_look-requires-clause-small
follow_by_look-requires-clause-small c = sym c.in_ok-is_too_large.ensures ∙ c.if-branch.false

pub returns-then-not-branch-clause-tells : goal.returns-then-not-branch-clause-tells
returns-then-not-branch-clause-tells c =
    let x = c.context-context.ensures in
    let holds = moment_holds c.args.moment.now c.args.step.now in
    let told : Tells holds c.find.new.self.judge.memo =
    subst (λ are. Tells are c.find.new.self.judge.memo) (holds_is c.args.moment.now c.context-context.result x.scenario x.past x.inputs c.args.step.now) c.in_ok-find.ensures.tells in
    IfOk-weaker c.follow_by_look.result _ _ (λ (f : Following) h. subst (λ (m : Memo). Tells holds m) (sym h) told) c.follow_by_look.ensures.memo

pub returns-in_err-put_nexts-clause-halts : goal.returns-in_err-put_nexts-clause-halts
returns-in_err-put_nexts-clause-halts c =
    passed_on c.from_residual-in_err-put_nexts.result halt.Memory (IsFollowingHalt c.args.moment.now c.args.step.now (process c.args.term.now)) c.from_residual-in_err-put_nexts.ensures.1 tt

pub returns-clause-follows : goal.returns-clause-follows
returns-clause-follows c =
    let x = c.context-context.ensures in
    finds_followed c.args.moment.now c.context-context.result x.scenario x.past x.inputs c.args.step.now (process c.args.term.now) (terms_of c.args.following.terms.keys) _ _ (sym c.in_ok-is_too_large.ensures ∙ c.if-branch.false) (c.in_ok-find.ensures.finds c.if-not-branch.false) c.in_ok-put_nexts.ensures

pub returns-clause-searcher : goal.returns-clause-searcher
returns-clause-searcher c =
    subst (λ (s : Scenario). IsSearcherOf s c.find.new.searcher) c.context-context.ensures.scenario c.in_ok-find.ensures.searcher

pub returns-clause-tells : goal.returns-clause-tells
returns-clause-tells c =
    let x = c.context-context.ensures in
    subst (λ holds. Tells holds c.find.new.self.judge.memo) (holds_is c.args.moment.now c.context-context.result x.scenario x.past x.inputs c.args.step.now) c.in_ok-find.ensures.tells
