use Rattle.std.proofs.Common.{◌≡◌, ◌≤◌, ◌+◌, ℕ, length, map, drop}
use Rattle.lt_ast.specs.inner.Lists.{groups_of}
use Rattle.lt_ast.specs.inner.Rows.{group_of}
use Rattle.lt_macros.specs.Environment.{Environment}
use Rattle.lt_macros.specs.Expansion.{groups_variables, with_groups}
use Rattle.lt_macros.specs.Denotation.{Numbers, Denotation}
use Rattle.lt_macros.specs.inner.Counting.{AreWithin, waiting}
use Rattle.lt_macros.specs.inner.Started.{sum_from}
use Rattle.lt_macros.specs.inner.Figures.{Figure, variables_figure}
use Rattle.lt_macros.specs.inner.Handing.{AreRight}
use Rattle.lt_macros.specs.inner.HeadNormalForm.{AddsTo}
use Rattle.lt_macros.specs.inner.Reading.{environment, meant}
use Rattle.lt_macros.specs.inner.Rows.{rows}
use Rattle.lt_macros.proofs.counting.put_variables.Given as goal

-- the other groups are still to be put
abbrev pub invariant-loop-group : goal.invariant-loop-group
invariant-loop-group l =
    record {
      figures :
          (decimals : ℕ) (f : Figure) (n : Numbers) → sum_from decimals (rows l.scope) f l.count n + variables_figure f (groups_variables l.fn.role l.visible.next (environment (meant decimals) (rows l.scope) l.visible.environment) (groups_of (map group_of (drop l.group-index l.groups))))
          ≡ sum_from decimals (rows l.fn.scope) f l.fn.count n + variables_figure f (groups_variables l.fn.role 0 (environment (meant decimals) (rows l.fn.scope) l.fn.outer) (groups_of (map group_of l.groups)));
      visible :
          (decimals : ℕ) → with_groups l.fn.role l.visible.next (groups_of (map group_of (drop l.group-index l.groups))) (environment (meant decimals) (rows l.scope) l.visible.environment)
          ≡ with_groups l.fn.role 0 (groups_of (map group_of l.groups)) (environment (meant decimals) (rows l.fn.scope) l.fn.outer);
      next :
          (n m : ℕ) (env other : Environment Denotation) → l.visible.next + length (groups_variables l.fn.role n env (groups_of (map group_of (drop l.group-index l.groups))))
          ≡ length (groups_variables l.fn.role m other (groups_of (map group_of l.groups)));
      inside : l.visible.environment ≤ length (rows l.scope);
      numbers : l.count.numbers ≡ l.fn.count.numbers;
      within : (least : ℕ) → AreWithin least (length (rows l.fn.scope)) (waiting l.fn.count) → AreWithin least (length (rows l.scope)) (waiting l.count);
      adds : AddsTo (rows l.fn.scope) (rows l.scope);
      right : AreRight (rows l.scope);
    }
