use Rattle.std.proofs.Common.{◌≡◌, ◌<◌, ◌+◌, ℕ, List, length, ap, sym, ◌∙◌, arith}
use Rattle.lt_ast.specs.View.{run}
use Rattle.lt_macros.specs.Environment.{Environment}
use Rattle.lt_macros.specs.Denotation.{Denotation}
use Rattle.lt_macros.specs.Expansion.{Runnable, call_of, calls_of, with_calls, with_declared}
use Rattle.lt_formula.specs.declared.role.Role.TheVariants as role
use Rattle.lt_macros.specs.inner.Asking.{runnables}
use Rattle.lt_macros.specs.inner.Figures.{calls_figure}
use Rattle.lt_macros.specs.inner.Started.{sum_from}
use Rattle.lt_macros.specs.inner.Reading.{environment, meant}
use Rattle.lt_macros.specs.inner.Rows.{rows}
use Rattle.lt_macros.proofs.Adding.{adds_both, adds_length}
use Rattle.lt_macros.proofs.Runs.{given, no_run_left, run_counted, run_put, run_visible, runnables_kept, there_more}
use Rattle.lt_macros.proofs.counting_runs.put_calls.Goals as goal

pub put_call-requires-clause-there : goal.put_call-requires-clause-there
put_call-requires-clause-there c = there_more (length (rows c.args.scope.now)) (length (rows c.loop-declared.scope)) c.args.before.now (adds_length (rows c.args.scope.now) (rows c.loop-declared.scope) c.loop-declared.invariant.adds) c.requires.there

pub loop-declared-preserved : goal.loop-declared-preserved
loop-declared-preserved c =
    let more : c.loop-declared.declared-index < length c.args.runs.now = omega (arith, c.loop-declared-test.true, c.loop-declared.auto.declared-index-end) in
    let at = c.loop-declared.visible in
    let made = c.in_ok-visible.visible in
    let old = rows c.loop-declared.scope in
    let new = rows c.put_call.new.scope in
    let r = c.declared-item.result in
    let known : ℕ → List Runnable = λ d. runnables d (rows c.args.scope.now) c.args.before.now in
    let same : (d : ℕ) → runnables d old c.args.before.now ≡ known d = λ d. runnables_kept d (rows c.args.scope.now) old c.args.before.now c.loop-declared.invariant.adds c.requires.there in
    let env : ℕ → Environment Denotation = λ d. environment (meant d) old at.environment in
    let inner : ℕ → Environment Denotation = λ d. environment (meant d) new made.environment in
    let shown : (d : ℕ) → inner d ≡ with_declared role.Input at.next (call_of (known d) (env d) (run r)).names (env d) =
    λ d. c.in_ok-visible.ensures.visible d ∙ ap (λ ks. with_declared role.Input at.next (call_of ks (env d) (run r)).names (env d)) (same d) in
    let moved : (d : ℕ) → made.next ≡ at.next + length (call_of (known d) (env d) (run r)).names =
    λ d. c.in_ok-visible.ensures.next d ∙ ap (λ ks. at.next + length (call_of ks (env d) (run r)).names) (same d) in
    record {
      figures = λ d f n.
          run_put f (known d) at.next made.next (env d) (inner d) c.args.runs.now c.loop-declared.declared-index r (sum_from d old f c.loop-declared.count n) (sum_from d new f c.put_call.new.count n) _ more c.declared-item.is (shown d) (moved d)
          (c.in_ok-visible.ensures.figures d f n) (c.loop-declared.invariant.figures d f n);
      visible = λ d. run_visible (known d) at.next made.next (env d) (inner d) _ c.args.runs.now c.loop-declared.declared-index r more c.declared-item.is (shown d) (moved d) (c.loop-declared.invariant.visible d);
      next = λ d. run_counted (known d) at.next made.next _ (env d) (inner d) c.args.runs.now c.loop-declared.declared-index r more c.declared-item.is (shown d) (moved d) (c.loop-declared.invariant.next d);
      inside = c.in_ok-visible.ensures.inside;
      numbers = c.in_ok-visible.ensures.numbers ∙ c.loop-declared.invariant.numbers;
      within = λ least w. c.in_ok-visible.ensures.within least (c.loop-declared.invariant.within least w);
      adds = adds_both (rows c.args.scope.now) old new c.loop-declared.invariant.adds c.in_ok-visible.ensures.adds;
      right = c.in_ok-visible.ensures.right;
    }

pub returns-clause-figures : goal.returns-clause-figures
returns-clause-figures c =
    λ d f n.
    let at = c.loop-declared.visible in
    omega (
      arith,
      c.loop-declared.invariant.figures d f n,
      ap (λ rs. calls_figure f (calls_of (runnables d (rows c.args.scope.now) c.args.before.now) at.next (environment (meant d) (rows c.loop-declared.scope) at.environment) rs)) (no_run_left c.args.runs.now c.loop-declared.declared-index c.loop-declared-test.false),
    )

pub returns-clause-visible : goal.returns-clause-visible
returns-clause-visible c =
    λ d.
    let at = c.loop-declared.visible in
    let env = environment (meant d) (rows c.loop-declared.scope) at.environment in
    sym (ap (λ rs. with_calls at.next (calls_of (runnables d (rows c.args.scope.now) c.args.before.now) at.next env rs) env) (no_run_left c.args.runs.now c.loop-declared.declared-index c.loop-declared-test.false))
    ∙ c.loop-declared.invariant.visible d

pub returns-clause-next : goal.returns-clause-next
returns-clause-next c =
    λ d.
    let at = c.loop-declared.visible in
    let env = environment (meant d) (rows c.loop-declared.scope) at.environment in
    omega (
      arith,
      c.loop-declared.invariant.next d,
      ap (λ rs. length (given (calls_of (runnables d (rows c.args.scope.now) c.args.before.now) at.next env rs))) (no_run_left c.args.runs.now c.loop-declared.declared-index c.loop-declared-test.false),
    )
