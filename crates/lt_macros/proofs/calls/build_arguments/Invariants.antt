use Rattle.std.proofs.Common.{◌≡◌, map, take}
use Rattle.lt_ast.specs.View.{exp}
use Rattle.lt_macros.specs.Tree.{placed}
use Rattle.lt_macros.specs.inner.Builder.{IsKept, value_at}
use Rattle.lt_macros.proofs.calls.build_arguments.Given as goal

-- the arguments that are passed are built
abbrev pub invariant-loop-expr : goal.invariant-loop-expr
invariant-loop-expr l =
    record {
      made : map placed l.arguments.items ≡ map (λ e. value_at l.fn.builder l.fn.environment (exp e)) (take l.expr-index l.exprs);
      kept : IsKept l.fn.builder l.builder;
    }
