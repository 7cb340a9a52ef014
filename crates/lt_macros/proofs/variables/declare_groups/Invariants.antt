use Rattle.std.proofs.Common.{◌≡◌, ◌≤◌, ◌+◌, ◌++◌, ℕ, length, map, drop}
use Rattle.lt_ast.specs.inner.Lists.{groups_of}
use Rattle.lt_ast.specs.inner.Rows.{group_of}
use Rattle.lt_macros.specs.Environment.{Environment}
use Rattle.lt_macros.specs.Expansion.{groups_variables, with_groups}
use Rattle.lt_macros.specs.inner.Builder.{IsGrown, IsReady, names_at, work_at}
use Rattle.lt_macros.specs.Tree.{declared}
use Rattle.lt_macros.specs.inner.Work.{groups_work}
use Rattle.lt_macros.proofs.variables.declare_groups.Given as goal

-- the other groups are still to be declared
abbrev pub invariant-loop-group : goal.invariant-loop-group
invariant-loop-group l =
    record {
      declared :
          map declared l.declared.items ++ groups_variables l.fn.role l.next (names_at l.builder l.environment) (groups_of (map group_of (drop l.group-index l.group-items)))
          ≡ groups_variables l.fn.role l.fn.first (names_at l.fn.builder l.fn.outer) (groups_of (map group_of l.group-items));
      visible :
          with_groups l.fn.role l.next (groups_of (map group_of (drop l.group-index l.group-items))) (names_at l.builder l.environment)
          ≡ with_groups l.fn.role l.fn.first (groups_of (map group_of l.group-items)) (names_at l.fn.builder l.fn.outer);
      next : l.next ≡ l.fn.first + length l.declared.items;
      work :
          (body : Environment ℕ → ℕ) → groups_work (work_at l.builder l.environment) (groups_of (map group_of (drop l.group-index l.group-items))) body
          ≤ groups_work (work_at l.fn.builder l.fn.outer) (groups_of (map group_of l.group-items)) body;
      ready : IsReady l.builder l.environment;
      grown : IsGrown l.fn.builder l.builder;
    }
