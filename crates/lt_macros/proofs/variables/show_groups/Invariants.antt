use Rattle.std.proofs.Common.{◌≡◌, ◌≤◌, ℕ, length, map, drop}
use Rattle.lt_ast.specs.inner.Lists.{groups_of}
use Rattle.lt_ast.specs.inner.Rows.{group_of}
use Rattle.lt_macros.specs.Expansion.{with_groups}
use Rattle.lt_macros.specs.inner.Handing.{AreRight}
use Rattle.lt_macros.specs.inner.HeadNormalForm.{AddsTo}
use Rattle.lt_macros.specs.inner.Reading.{environment, meant}
use Rattle.lt_macros.specs.inner.Rows.{rows}
use Rattle.lt_macros.proofs.variables.show_groups.Given as goal

-- the other groups are still to be shown
abbrev pub invariant-loop-group : goal.invariant-loop-group
invariant-loop-group l =
    record {
      visible :
          (decimals : ℕ) → with_groups l.fn.role l.visible.next (groups_of (map group_of (drop l.group-index l.group-items))) (environment (meant decimals) (rows l.scope) l.visible.environment)
          ≡ with_groups l.fn.role l.fn.first (groups_of (map group_of l.group-items)) (environment (meant decimals) (rows l.fn.scope) l.fn.outer);
      within : l.visible.environment ≤ length (rows l.scope);
      adds : AddsTo (rows l.fn.scope) (rows l.scope);
      right : AreRight (rows l.scope);
    }
