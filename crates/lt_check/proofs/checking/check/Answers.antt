use Rattle.std.proofs.Common.{◌∙◌, ◌+◌, ℕ, Bool, ap, length, refl, subst, sym}
use Rattle.lt_legal.specs.Verdict.{IsVerdict}
use Rattle.lt_legal.specs.declared.halt.Halt.{Halt}
use Rattle.lt_legal.specs.declared.verdict.Verdict.TheVariants.{Budget, Illegal, Legal}
use Rattle.lt_term.specs.SceneView.{scene}
use Rattle.lt_term.specs.declared.scenario.Scenario.{Scenario}
use Rattle.lt_trace.specs.View.{step_view, told}
use Rattle.lt_check.specs.declared.progress.Stop.{Stop}
use Rattle.lt_check.specs.inner.Kinded.{IsKindedStep}
use Rattle.lt_check.specs.inner.ProgressView.{AreEnded, IsBehind, IsEndHalt, IsStop}
use Rattle.lt_check.specs.inner.TermSet.{terms_of}
use Rattle.lt_check.proofs.Checked.{all_behind, end_given_up, ends_illegal, ends_legal, told_kinded, told_there}
use Rattle.lt_check.proofs.Semantics.{Laws}
use Rattle.lt_check.proofs.checking.check.Goals as goal

pub loop-step-init : goal.loop-step-init
loop-step-init c = record {
  sound = c.in_ok-progress.ensures.sound;
  scenario = c.in_ok-progress.ensures.scenario;
  number = refl;
  behind = c.in_ok-progress.ensures.begins (told c.args.trace.now);
}

pub step_on-requires-clause-kinded : goal.step_on-requires-clause-kinded
step_on-requires-clause-kinded c =
    let there = told_there c.args.trace.now c.deref-step-items.result.now c.loop-step.step-index c.step-item.result c.deref-step-items.ensures.value c.loop-step-test.true c.step-item.is in
    subst (λ (sc : Scenario). IsKindedStep (scene sc) (step_view c.step-item.result)) (sym c.loop-step.invariant.scenario)
    (told_kinded (scene c.args.scenario.now) (told c.args.trace.now) c.loop-step.step-index (step_view c.step-item.result) c.requires.shape there)

pub returns-in-Err-Said : goal.returns-in-Err-Said
returns-in-Err-Said c =
    let there = told_there c.args.trace.now c.deref-step-items.result.now c.loop-step.step-index c.step-item.result c.deref-step-items.ensures.value c.loop-step-test.true c.step-item.is in
    let t = told c.args.trace.now in
    let stop = c.in-Err-Said.ensures.stops t c.args.budget c.loop-step.step-index there (ap (λ n. n + 1) c.loop-step.invariant.number) c.loop-step.invariant.behind in
    let said = subst (λ (x : Stop). IsStop c.loop-step.progress.moment c.args.budget t x) c.in-Err-Said.field-0-is stop in
    rw c.in-Err-Said.verdict-is (subst (λ (sc : Scenario). IsVerdict (scene sc) c.args.budget t c.in-Err-Said.verdict) c.loop-step.invariant.scenario said)

pub loop-step-preserved : goal.loop-step-preserved
loop-step-preserved c =
    let there = told_there c.args.trace.now c.deref-step-items.result.now c.loop-step.step-index c.step-item.result c.deref-step-items.ensures.value c.loop-step-test.true c.step-item.is in
    record {
      sound = c.in-Ok.ensures.sound;
      scenario = c.in-Ok.ensures.scenario ∙ c.loop-step.invariant.scenario;
      number = ap (λ n. n + 1) c.loop-step.invariant.number;
      behind = c.in-Ok.ensures.goes_on (told c.args.trace.now) c.args.budget c.loop-step.step-index there c.loop-step.invariant.behind;
    }

pub returns-in-Ok-true : goal.returns-in-Ok-true
returns-in-Ok-true c =
    let t = told c.args.trace.now in
    let p = c.loop-step.progress in
    let laws : Laws = record { walked = c.walks_are_walked.ensures; legal = c.walk_is_legal.ensures; tell = c.legal_leaves_tell.ensures; stand = c.legal_leaves_stand.ensures; pass = c.solutions_pass.ensures } in
    let all = all_behind c.args.trace.now c.deref-step-items.result.now c.loop-step.step-index c.deref-step-items.ensures.value c.loop-step-test.false c.loop-step.auto.step-index-end in
    let behind = subst (λ (k : ℕ). IsBehind t c.args.budget k p) all c.loop-step.invariant.behind in
    let tells = subst (λ (b : Bool). AreEnded p.moment (terms_of p.terms.keys) t.end b) c.in-Ok-true.field-0-test c.in-Ok-true.ensures.tells in
    subst (λ (sc : Scenario). IsVerdict (scene sc) c.args.budget t Legal) c.loop-step.invariant.scenario (ends_legal t c.args.budget p behind laws tells)

pub returns-in-Ok-false : goal.returns-in-Ok-false
returns-in-Ok-false c =
    let t = told c.args.trace.now in
    let p = c.loop-step.progress in
    let laws : Laws = record { walked = c.walks_are_walked.ensures; legal = c.walk_is_legal.ensures; tell = c.legal_leaves_tell.ensures; stand = c.legal_leaves_stand.ensures; pass = c.solutions_pass.ensures } in
    let all = all_behind c.args.trace.now c.deref-step-items.result.now c.loop-step.step-index c.deref-step-items.ensures.value c.loop-step-test.false c.loop-step.auto.step-index-end in
    let behind = subst (λ (k : ℕ). IsBehind t c.args.budget k p) all c.loop-step.invariant.behind in
    let tells = subst (λ (b : Bool). AreEnded p.moment (terms_of p.terms.keys) t.end b) c.in-Ok-false.field-0-test c.in-Ok-false.ensures.tells in
    subst (λ (n : ℕ). IsVerdict (scene c.args.scenario.now) c.args.budget t (Illegal (n + 1))) (sym (c.loop-step.invariant.number ∙ all))
    (subst (λ (sc : Scenario). IsVerdict (scene sc) c.args.budget t (Illegal (length t.steps + 1))) c.loop-step.invariant.scenario (ends_illegal t c.args.budget p behind laws tells))

pub returns-in-Err-Over : goal.returns-in-Err-Over
returns-in-Err-Over c =
    let t = told c.args.trace.now in
    let p = c.loop-step.progress in
    let all = all_behind c.args.trace.now c.deref-step-items.result.now c.loop-step.step-index c.deref-step-items.ensures.value c.loop-step-test.false c.loop-step.auto.step-index-end in
    let behind = subst (λ (k : ℕ). IsBehind t c.args.budget k p) all c.loop-step.invariant.behind in
    let halts = subst (λ (h : Halt). IsEndHalt p.moment (terms_of p.terms.keys) t.end h) c.in-Err-Over.field-0-is c.in-Err-Over.ensures.halts in
    subst (λ (n : ℕ). IsVerdict (scene c.args.scenario.now) c.args.budget t (Budget c.in-Err-Over.need (n + 1))) (sym (c.loop-step.invariant.number ∙ all))
    (subst (λ (sc : Scenario). IsVerdict (scene sc) c.args.budget t (Budget c.in-Err-Over.need (length t.steps + 1))) c.loop-step.invariant.scenario (end_given_up t c.args.budget p behind c.in-Err-Over.need halts))
