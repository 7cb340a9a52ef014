use Rattle.std.proofs.Common.{◌≡◌, Some, drop, map, take}
use Rattle.lt_ast.specs.View.{exp}
use Rattle.lt_types.specs.Refusals.{exps_refusals, type_of}
use Rattle.lt_types.proofs.runs.check_exprs.Given as goal

-- what is left breaks the rules that all of it does
abbrev pub invariant-loop-expr : goal.invariant-loop-expr
invariant-loop-expr l =
    record {
      kept : l.scope ≡ l.fn.scope;
      refusals : exps_refusals l.fn.scope (map exp l.exprs) ≡ exps_refusals l.fn.scope (map exp (drop l.expr-index l.exprs));
      kinds : map Some l.kinds.items ≡ map (type_of l.fn.scope) (map exp (take l.expr-index l.exprs));
    }
