use Rattle.std.proofs.Common.{◌≡◌, ◌≤◌, ◌+◌, ℕ, length, map, drop}
use Rattle.lt_ast.specs.View.{word}
use Rattle.lt_macros.specs.Environment.{with_variables}
use Rattle.lt_macros.specs.inner.Handing.{AreRight}
use Rattle.lt_macros.specs.inner.HeadNormalForm.{AddsTo}
use Rattle.lt_macros.specs.inner.Reading.{environment, meant, worked}
use Rattle.lt_macros.specs.inner.Rows.{rows}
use Rattle.lt_macros.specs.inner.Work.{with_ones}
use Rattle.lt_macros.proofs.variables.show_names.Given as goal

-- the other names are still to be shown
abbrev pub invariant-loop-name : goal.invariant-loop-name
invariant-loop-name l =
    record {
      visible :
          (decimals : ℕ) → with_variables l.fn.role l.next (map word (drop l.name-index l.names)) (environment (meant decimals) (rows l.scope) l.environment)
          ≡ with_variables l.fn.role l.fn.first (map word l.names) (environment (meant decimals) (rows l.fn.scope) l.fn.outer);
      work : with_ones (map word (drop l.name-index l.names)) (environment worked (rows l.scope) l.environment) ≡ with_ones (map word l.names) (environment worked (rows l.fn.scope) l.fn.outer);
      next : l.next ≡ l.fn.first + l.name-index;
      within : l.environment ≤ length (rows l.scope);
      adds : AddsTo (rows l.fn.scope) (rows l.scope);
      right : AreRight (rows l.scope);
    }
