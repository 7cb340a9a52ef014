use Rattle.std.proofs.Common.{◌≡◌, ◌+◌, ◌*◌, ℕ, List}
use Rattle.lt_ast.specs.inner.Rows.{maybe_exp}
use Rattle.lt_macros.specs.Denotation.{Numbers, first_of}
use Rattle.lt_macros.specs.inner.Counting.{AreWithin, waiting}
use Rattle.lt_macros.specs.inner.Started.{sum_from}
use Rattle.lt_macros.specs.inner.Figures.{Figure, first_figure}
use Rattle.lt_macros.specs.inner.Reading.{environment, meant}
use Rattle.lt_macros.specs.declared.scope.Entry.{Entry}
use Rattle.lt_macros.proofs.counting.put_firsts.Given as goal

-- the first value was put once for each name that is passed
abbrev pub invariant-names : goal.invariant-names
invariant-names l =
    record {
      figures : (decimals : ℕ) (rows : List Entry) (f : Figure) (n : Numbers) → sum_from decimals rows f l.count n ≡ sum_from decimals rows f l.fn.count n + l._name-index * first_figure f (first_of (environment (meant decimals) rows l.fn.at.environment) (maybe_exp l.fn.group.first));
      numbers : l.count.numbers ≡ l.fn.count.numbers;
      within : (least : ℕ) → AreWithin least l.fn.at.len (waiting l.fn.count) → AreWithin least l.fn.at.len (waiting l.count);
    }
