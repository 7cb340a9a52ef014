use Rattle.std.proofs.Common.{◌≡◌, ◌∙◌, Bool, false, true, sym}
use Rattle.std.specs.List.{list_all}
use Rattle.lt_term.specs.UnfoldingView.{instant_in}
use Rattle.lt_check.specs.inner.JudgeView.{context_of, step_of}
use Rattle.lt_check.specs.inner.QuestionView.{constraint_holds, kinds_in}
use Rattle.lt_check.specs.inner.Wanted.{has_scope}
use Rattle.lt_check.proofs.Judges.{step_is}
use Rattle.lt_check.proofs.Sights.{if_ok}
use Rattle.lt_check.proofs.judge.Judge.passes.Goals as goal

pub returns-then-not-has_scope-clause-passes : goal.returns-then-not-has_scope-clause-passes
returns-then-not-has_scope-clause-passes c =
    let m = context_of c.args.question.now in
    let step = step_of c.args.question.now in
    let it = instant_in (kinds_in m) c.args.unfolded.now c.args.instant in
    let ls = c.put_instant.new.locals.items in
    let cs = c.put_instant.new.constraints.items in
    let scope : false ≡ has_scope ls 0 step.marks.items = sym c.if-not-has_scope.true ∙ c.has_scope.ensures ∙ (λ i. has_scope (c.deref.ensures.value i) 0 (c.deref-2.ensures.value i)) in
    step_is m step it ls cs false (list_all (constraint_holds m step ls) cs) (c.in_ok-put_instant.ensures.locals (kinds_in m)) (c.in_ok-put_instant.ensures.constraints (kinds_in m)) scope (λ i. list_all (constraint_holds m step ls) cs)

pub all_hold-requires-clause-tells : goal.all_hold-requires-clause-tells
all_hold-requires-clause-tells c =
    c.in_ok-go_to.ensures.tells (constraint_holds (context_of c.args.question.now) (step_of c.args.question.now)) c.requires.tells

pub returns-clause-passes : goal.returns-clause-passes
returns-clause-passes c =
    let m = context_of c.args.question.now in
    let step = step_of c.args.question.now in
    let it = instant_in (kinds_in m) c.args.unfolded.now c.args.instant in
    let ls = c.put_instant.new.locals.items in
    let cs = c.put_instant.new.constraints.items in
    let scope : true ≡ has_scope ls 0 step.marks.items = sym c.if-not-has_scope.false ∙ c.has_scope.ensures ∙ (λ i. has_scope (c.deref.ensures.value i) 0 (c.deref-2.ensures.value i)) in
    if_ok c.all_hold.result _ _
    (λ (b : Bool) e.
    step_is m step it ls cs true b (c.in_ok-put_instant.ensures.locals (kinds_in m)) (c.in_ok-put_instant.ensures.constraints (kinds_in m)) scope
    (e ∙ (λ i. list_all (constraint_holds m step (c.deref-4.ensures.value i)) (c.deref-5.ensures.value i)))) c.all_hold.ensures.holds
