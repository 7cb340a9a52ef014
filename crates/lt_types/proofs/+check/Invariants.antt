use Rattle.std.proofs.Common.{◌≡◌, ◌++◌, ◌<◌, ◌≤◌, Some, All, vec_len, reverse, map, take, drop, length}
use Rattle.lt_ast.specs.declared.expr.Expr.{size-Expr}
use Rattle.lt_ast.specs.inner.Lists.{arguments_of, alternatives_of, groups_of, traces_of}
use Rattle.lt_ast.specs.inner.Rows.{group_of, part_of}
use Rattle.lt_ast.specs.View.{alternatives, argument, exp, groupings, trace}
use Rattle.lt_types.specs.inner.Chains.{sides_refusals, sides_type}
use Rattle.lt_types.specs.Environment.{with_groups}
use Rattle.lt_types.specs.inner.Given.{argument_type}
use Rattle.lt_types.specs.Refusals.{alternatives_refusals, arguments_refusals, exp_refusals, groups_refusals, traces_refusals, type_of}
use Rattle.lt_types.specs.inner.Scoping.{declared_since, role_view}
use Rattle.lt_types.proofs.+check.Given as goal

-- what the whole breaks is what its left side does and what stands right of it
abbrev pub invariant-expressions::check_expr-loop-left : goal.invariant-expressions::check_expr-loop-left
invariant-expressions::check_expr-loop-left l =
    record {
      refusals : exp_refusals l.scope (exp l.expr) ≡ exp_refusals l.scope (exp l.left) ++ sides_refusals l.scope (type_of l.scope (exp l.left)) (reverse l.sides.items);
      shown : type_of l.scope (exp l.expr) ≡ sides_type (type_of l.scope (exp l.left)) (reverse l.sides.items);
      left : size-Expr l.left ≤ size-Expr l.expr;
      sides : All (λ p. size-Expr p.1.now < size-Expr l.expr) l.sides.items;
    }

-- and then what stands right of what was judged
abbrev pub invariant-expressions::check_expr-loop-operator : goal.invariant-expressions::check_expr-loop-operator
invariant-expressions::check_expr-loop-operator l =
    record {
      kept : l.scope ≡ l.fn.scope;
      refusals : exp_refusals l.fn.scope (exp l.expr) ≡ sides_refusals l.fn.scope (Some l.kind) (reverse l.sides.items);
      shown : type_of l.fn.scope (exp l.expr) ≡ sides_type (Some l.kind) (reverse l.sides.items);
      sides : All (λ p. size-Expr p.1.now < size-Expr l.expr) l.sides.items;
    }

abbrev pub decreases-expressions::check_expr-loop-operator : goal.decreases-expressions::check_expr-loop-operator
decreases-expressions::check_expr-loop-operator l = vec_len l.sides

-- in each list what is left breaks the rules that all of it does
abbrev pub invariant-expressions::check_args-loop-arg : goal.invariant-expressions::check_args-loop-arg
invariant-expressions::check_args-loop-arg l =
    record {
      kept : l.scope ≡ l.fn.scope;
      refusals : arguments_refusals l.fn.scope (arguments_of (map argument l.args)) ≡ arguments_refusals l.fn.scope (arguments_of (map argument (drop l.arg-index l.args)));
      kinds : map Some l.kinds.items ≡ map (argument_type l.fn.scope) (map argument (take l.arg-index l.args));
    }

abbrev pub invariant-traces::check_traces-loop-part : goal.invariant-traces::check_traces-loop-part
invariant-traces::check_traces-loop-part l =
    record {
      kept : l.scope ≡ l.fn.scope;
      refusals : traces_refusals l.fn.scope (traces_of (map trace l.traces)) ≡ traces_refusals l.fn.scope (traces_of (map trace (drop l.part-index l.traces)));
    }

abbrev pub invariant-traces::check_parts-loop-part : goal.invariant-traces::check_parts-loop-part
invariant-traces::check_parts-loop-part l =
    record {
      kept : l.scope ≡ l.fn.scope;
      refusals : alternatives_refusals l.fn.scope (alternatives l.parts) ≡ alternatives_refusals l.fn.scope (alternatives_of (map part_of (drop l.part-index l.part-items)));
    }

-- and after the rest stands the scope that stands after all of it
abbrev pub invariant-groups::check_groups-loop-group : goal.invariant-groups::check_groups-loop-group
invariant-groups::check_groups-loop-group l =
    record {
      refusals :
          groups_refusals (role_view l.role) l.fn.scope (declared_since l.from l.fn.scope) (groupings l.groups)
          ≡ groups_refusals (role_view l.role) l.scope (declared_since l.from l.scope) (groups_of (map group_of (drop l.group-index l.group-items)));
      declared : with_groups (role_view l.role) l.fn.scope (groupings l.groups) ≡ with_groups (role_view l.role) l.scope (groups_of (map group_of (drop l.group-index l.group-items)));
      from : l.from ≤ length l.scope.names;
    }
