use Rattle.std.proofs.Common.{◌≡◌, ◌++◌, map, take}
use Rattle.lt_ast.specs.View.{word}
use Rattle.lt_macros.specs.inner.Builder.{IsKept, declares, names_at}
use Rattle.lt_macros.specs.Tree.{declared}
use Rattle.lt_macros.proofs.variables.declare_names.Given as goal

-- the names so far are declared
abbrev pub invariant-loop-name : goal.invariant-loop-name
invariant-loop-name l =
    record {
      declared :
          map declared l.declared.items
          ≡ map declared l.fn.declared.items ++ map (declares l.fn.role (names_at l.fn.builder l.fn.environment) l.fn.group) (map word (take l.name-index l.name-items));
      kept : IsKept l.fn.builder l.builder;
    }
