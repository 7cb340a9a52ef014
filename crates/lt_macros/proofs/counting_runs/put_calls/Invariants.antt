use Rattle.std.proofs.Common.{◌≡◌, ◌≤◌, ◌+◌, ℕ, length, map}
use Rattle.lt_ast.specs.View.{run}
use Rattle.lt_macros.specs.Denotation.{Numbers}
use Rattle.lt_macros.specs.Expansion.{calls_of, with_calls}
use Rattle.lt_macros.specs.inner.Asking.{runnables}
use Rattle.lt_macros.specs.inner.Counting.{AreWithin, waiting}
use Rattle.lt_macros.specs.inner.Started.{sum_from}
use Rattle.lt_macros.specs.inner.Figures.{Figure, calls_figure}
use Rattle.lt_macros.specs.inner.Handing.{AreRight}
use Rattle.lt_macros.specs.inner.HeadNormalForm.{AddsTo}
use Rattle.lt_macros.specs.inner.Reading.{environment, meant}
use Rattle.lt_macros.specs.inner.Rows.{rows}
use Rattle.lt_macros.proofs.Runs.{calls_left, given}
use Rattle.lt_macros.proofs.counting_runs.put_calls.Given as goal

-- the other runs are still to be put
abbrev pub invariant-loop-declared : goal.invariant-loop-declared
invariant-loop-declared l =
    record {
      figures :
          (decimals : ℕ) (f : Figure) (n : Numbers) → sum_from decimals (rows l.scope) f l.count n
          + calls_figure f (calls_left (runnables decimals (rows l.fn.scope) l.before) l.visible.next (environment (meant decimals) (rows l.scope) l.visible.environment) l.runs l.declared-index)
          ≡ sum_from decimals (rows l.fn.scope) f l.fn.count n + calls_figure f (calls_of (runnables decimals (rows l.fn.scope) l.before) l.fn.outer.next (environment (meant decimals) (rows l.fn.scope) l.fn.outer.environment) (map run l.runs));
      visible :
          (decimals : ℕ) → with_calls l.visible.next (calls_left (runnables decimals (rows l.fn.scope) l.before) l.visible.next (environment (meant decimals) (rows l.scope) l.visible.environment) l.runs l.declared-index)
          (environment (meant decimals) (rows l.scope) l.visible.environment)
          ≡ with_calls l.fn.outer.next (calls_of (runnables decimals (rows l.fn.scope) l.before) l.fn.outer.next (environment (meant decimals) (rows l.fn.scope) l.fn.outer.environment) (map run l.runs))
          (environment (meant decimals) (rows l.fn.scope) l.fn.outer.environment);
      next :
          (decimals : ℕ) → l.visible.next + length (given (calls_left (runnables decimals (rows l.fn.scope) l.before) l.visible.next (environment (meant decimals) (rows l.scope) l.visible.environment) l.runs l.declared-index))
          ≡ l.fn.outer.next + length (given (calls_of (runnables decimals (rows l.fn.scope) l.before) l.fn.outer.next (environment (meant decimals) (rows l.fn.scope) l.fn.outer.environment) (map run l.runs)));
      inside : l.visible.environment ≤ length (rows l.scope);
      numbers : l.count.numbers ≡ l.fn.count.numbers;
      within : (least : ℕ) → AreWithin least (length (rows l.fn.scope)) (waiting l.fn.count) → AreWithin least (length (rows l.scope)) (waiting l.count);
      adds : AddsTo (rows l.fn.scope) (rows l.scope);
      right : AreRight (rows l.scope);
    }
