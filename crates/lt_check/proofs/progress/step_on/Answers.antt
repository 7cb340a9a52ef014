use Rattle.std.proofs.Common.{◌≡◌, ◌<◌, ◌≤◌, ℕ, IsTrue, [], arith, length, refl, subst, sym}
use Rattle.std.proofs.lemmas.List.{length-map}
use Rattle.lt_legal.specs.Verdict.{IsVerdict}
use Rattle.lt_legal.specs.declared.halt.Halt.{Halt}
use Rattle.lt_legal.specs.declared.verdict.Verdict.TheVariants.{Budget, Illegal, TooMany}
use Rattle.lt_term.specs.Process.{Process}
use Rattle.lt_term.specs.SceneView.{numbers_of, variable}
use Rattle.lt_term.specs.Within.{passes}
use Rattle.lt_term.specs.declared.scenario.Scenario.{Scenario}
use Rattle.lt_trace.specs.View.{step_view}
use Rattle.lt_check.specs.declared.searcher.Searcher.{Searcher}
use Rattle.lt_check.specs.inner.Members.{Has}
use Rattle.lt_check.specs.inner.MomentView.{moment_scene}
use Rattle.lt_check.specs.inner.ProgressView.{IsStepHalt}
use Rattle.lt_check.specs.inner.SearcherView.{IsSearcherOf}
use Rattle.lt_check.specs.inner.TermSet.{terms_of}
use Rattle.lt_check.proofs.Behind.{IsPassed, behind_step, none_legal, some_there, step_given_up, terms_long, too_many}
use Rattle.lt_check.proofs.StepTerms.{kinded_long, no_terms}
use Rattle.lt_check.proofs.progress.step_on.Goals as goal

pub follow_all-requires-clause-searcher : goal.follow_all-requires-clause-searcher
follow_all-requires-clause-searcher c =
    subst (λ (x : Searcher). IsSearcherOf c.args.progress.moment.scenario.now x) (sym c.in_ok-none.ensures.searcher) c.requires.sound.searches

pub returns-in-Err-Over-clause-stops : goal.returns-in-Err-Over-clause-stops
returns-in-Err-Over-clause-stops c =
    let m = c.args.progress.moment in
    let step = step_view c.args.step.now in
    let ps = terms_of c.args.progress.terms.keys in
    let h = subst (λ (x : Halt). IsStepHalt m step ps x) c.in-Err-Over.field-0-is c.in-Err-Over.ensures.halts in
    λ t budget k there number behind.
    subst (λ (n : ℕ). IsVerdict (moment_scene m) budget t (Budget c.in-Err-Over.need n)) (sym number)
    (step_given_up c.constraints_tell_terms.ensures m c.len.ensures.each_once t step budget k there ps [] behind.step behind.budget_is behind.inputs behind.terms behind.before c.test_tells_points.ensures c.requires.kinded c.in-Err-Over.need h)

pub returns-then-is_empty-clause-stops : goal.returns-then-is_empty-clause-stops
returns-then-is_empty-clause-stops c =
    let m = c.args.progress.moment in
    let step = step_view c.args.step.now in
    let ps = terms_of c.args.progress.terms.keys in
    let keys = c.in-Ok.following.terms.keys in
    let none_left : length keys ≡ 0 = c.is_empty.ensures.0 c.if-is_empty.true in
    λ t budget k there number behind.
    subst (λ (n : ℕ). IsVerdict (moment_scene m) budget t (Illegal n)) (sym number)
    (none_legal c.constraints_tell_terms.ensures m c.len.ensures.each_once t step budget k there ps (terms_of keys) behind.step behind.budget_is behind.inputs behind.terms behind.before (c.in-Ok.ensures.all (omega (arith, none_left))) (no_terms keys none_left))

pub returns-then-len-gt-MOST_TERMS-clause-stops : goal.returns-then-len-gt-MOST_TERMS-clause-stops
returns-then-len-gt-MOST_TERMS-clause-stops c =
    let m = c.args.progress.moment in
    let step = step_view c.args.step.now in
    let ps = terms_of c.args.progress.terms.keys in
    let keys = c.in-Ok.following.terms.keys in
    let long = terms_long keys in
    let counted : c.len-2.result ≡ length keys = c.len-2.ensures.len in
    let many_there : 4096 < length (terms_of keys) = omega (arith, long, counted, c.if-len-gt-MOST_TERMS.true) in
    λ t budget k there number behind.
    subst (λ (n : ℕ). IsVerdict (moment_scene m) budget t (TooMany n)) (sym number)
    (too_many c.constraints_tell_terms.ensures m c.len.ensures.each_once t step budget k there ps (terms_of keys) behind.step behind.budget_is behind.inputs behind.terms behind.before c.in-Ok.ensures.some many_there)

pub pass-requires-clause-outputs : goal.pass-requires-clause-outputs
pass-requires-clause-outputs c =
    let m = c.args.progress.moment in
    let long = kinded_long (moment_scene m).outputs (step_view c.args.step.now).outputs c.requires.kinded.outputs in
    let as_many = length-map m.scenario.now.outputs.items variable in
    omega (arith, long, as_many)

pub pass-requires-clause-inputs : goal.pass-requires-clause-inputs
pass-requires-clause-inputs c =
    let m = c.args.progress.moment in
    let long = kinded_long (moment_scene m).inputs (step_view c.args.step.now).inputs c.requires.kinded.inputs in
    let as_many = length-map m.scenario.now.inputs.items variable in
    omega (arith, long, as_many)

pub returns-clause-sound : goal.returns-clause-sound
returns-clause-sound c =
    let qs = terms_of c.in-Ok.following.terms.keys in
    record {
      searches = subst (λ (sc : Scenario). IsSearcherOf sc c.in-Ok.following.searcher) (sym c.pass.ensures.scenario) c.in-Ok.ensures.searcher;
      passing = subst (λ (sc : Scenario). (p : Process ℕ) → Has qs p → IsTrue (passes (numbers_of sc) p)) (sym c.pass.ensures.scenario) c.in-Ok.ensures.some.passing;
    }

pub returns-clause-goes_on : goal.returns-clause-goes_on
returns-clause-goes_on c =
    let m = c.args.progress.moment in
    let new = c.pass.new.self in
    let step = step_view c.args.step.now in
    let ps = terms_of c.args.progress.terms.keys in
    let keys = c.in-Ok.following.terms.keys in
    let long = terms_long keys in
    let counted : c.len-2.result ≡ length keys = c.len-2.ensures.len in
    let few : length keys ≤ 4096 = omega (arith, counted, c.if-len-gt-MOST_TERMS.false) in
    let some : 0 < length keys = some_there c.is_empty.result (length keys) c.is_empty.ensures.1 c.if-is_empty.false in
    let passed : IsPassed m new step = record {
      scenario = c.pass.ensures.scenario;
      step_is = c.pass.ensures.step;
      reacted = c.pass.ensures.reacted;
      inputs_before = c.pass.ensures.inputs_before;
      outputs_before = c.pass.ensures.outputs_before;
      inputs_now = c.pass.ensures.inputs_now;
      budget_is = c.pass.ensures.budget;
    } in
    λ t budget k there behind.
    behind_step c.constraints_tell_terms.ensures m c.len.ensures.each_once t step budget k there ps (terms_of keys) behind.step behind.budget_is behind.inputs behind.terms behind.before new passed (c.in-Ok.ensures.all few) (omega (arith, long, some)) (omega (arith, long, few)) _ refl refl
