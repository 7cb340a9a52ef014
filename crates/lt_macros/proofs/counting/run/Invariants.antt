use Rattle.std.proofs.Common.{◌≡◌, ℕ, List, length}
use Rattle.lt_macros.specs.inner.Counting.{AreWithin, sum_of, waiting}
use Rattle.lt_macros.specs.inner.Figures.{Figure}
use Rattle.lt_macros.specs.inner.Handing.{AreRight}
use Rattle.lt_macros.specs.inner.HeadNormalForm.{AddsTo}
use Rattle.lt_macros.specs.inner.Rows.{rows}
use Rattle.lt_macros.specs.declared.scope.Entry.{Entry}
use Rattle.lt_macros.proofs.counting.run.Given as goal

-- what was counted and what is left are all
abbrev pub invariant-turns : goal.invariant-turns
invariant-turns l =
    record {
      figures : (decimals : ℕ) (f : Figure) → sum_of decimals (rows l.scope) f l.count ≡ sum_of decimals (rows l.fn.scope) f l.fn.count;
      within : AreWithin l.base (length (rows l.scope)) (waiting l.count);
      kept : (first : List Entry) → length first ≡ l.base → AddsTo first (rows l.fn.scope) → AddsTo first (rows l.scope);
      right : AreRight (rows l.scope);
    }
