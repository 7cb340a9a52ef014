use Rattle.std.proofs.Common.{◌≡◌, ◌+◌, ◌++◌, length, map}
use Rattle.lt_ast.specs.View.{run}
use Rattle.lt_macros.specs.Expansion.{calls_of, with_calls}
use Rattle.lt_macros.specs.Tree.{call}
use Rattle.lt_macros.specs.inner.Asking.{runnables}
use Rattle.lt_macros.specs.inner.Builder.{IsGrown, IsReady, names_at}
use Rattle.lt_macros.specs.inner.Rows.{rows}
use Rattle.lt_macros.proofs.Runs.{calls_left, given}
use Rattle.lt_macros.proofs.calls.build_calls.Given as goal

-- the other runs are still to be made
abbrev pub invariant-loop-declared : goal.invariant-loop-declared
invariant-loop-declared l =
    record {
      made :
          map call l.calls.items ++ calls_left (runnables l.fn.builder.decimals (rows l.fn.builder.scope) l.before) l.visible.next (names_at l.builder l.visible.environment) l.runs l.declared-index
          ≡ calls_of (runnables l.fn.builder.decimals (rows l.fn.builder.scope) l.before) l.fn.first (names_at l.fn.builder l.fn.outer) (map run l.runs);
      visible : names_at l.builder l.visible.environment ≡ with_calls l.fn.first (map call l.calls.items) (names_at l.fn.builder l.fn.outer);
      next : l.visible.next ≡ l.fn.first + length (given (map call l.calls.items));
      ready : IsReady l.builder l.visible.environment;
      grown : IsGrown l.fn.builder l.builder;
    }
