use Rattle.std.proofs.Common.{◌≡◌, ◌+◌, ℕ, List, drop}
use Rattle.lt_macros.specs.Denotation.{Numbers}
use Rattle.lt_macros.specs.inner.Counting.{AreWithin, waiting}
use Rattle.lt_macros.specs.inner.Started.{sum_from}
use Rattle.lt_macros.specs.inner.Figures.{Figure, arguments_figure}
use Rattle.lt_macros.specs.inner.Reading.{environment, meant}
use Rattle.lt_macros.specs.declared.scope.Entry.{Entry}
use Rattle.lt_macros.proofs.Runs.{arguments_at}
use Rattle.lt_macros.proofs.counting_runs.put_arguments.Given as goal

-- the other arguments are still to be put
abbrev pub invariant-loop-argument : goal.invariant-loop-argument
invariant-loop-argument l =
    record {
      figures :
          (decimals : ℕ) (rows : List Entry) (f : Figure) (n : Numbers) → sum_from decimals rows f l.count n + arguments_figure f (arguments_at (environment (meant decimals) rows l.fn.at.environment) (drop l.argument-index l.arguments))
          ≡ sum_from decimals rows f l.fn.count n + arguments_figure f (arguments_at (environment (meant decimals) rows l.fn.at.environment) l.arguments);
      numbers : l.count.numbers ≡ l.fn.count.numbers;
      within : (least : ℕ) → AreWithin least l.fn.at.len (waiting l.fn.count) → AreWithin least l.fn.at.len (waiting l.count);
    }
