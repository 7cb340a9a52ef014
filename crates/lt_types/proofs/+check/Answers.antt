use Rattle.std.proofs.Common.{rules, sym, ap, ◌∙◌, arith}
use Rattle.std.proofs.lemmas.Grind.{common_steps}
use Rattle.lt_ast.specs.inner.Rows.{group_of}
use Rattle.lt_ast.specs.View.{braced}
use Rattle.lt_types.specs.Refusals.{braces_refusals}
use Rattle.lt_types.specs.inner.Scoping.{role_view}
use Rattle.lt_types.proofs.Scopes.{macro_parts, group_from, groups_next, with_groups_next, groups_steps, macro_params_first, scope_ends}
use Rattle.lt_types.proofs.Tracing.{Checks_same, rows_refusals, parts_steps}
use Rattle.lt_types.proofs.Leading.{leads}
use Rattle.lt_types.proofs.Stacks.{drop_next, turned}
use Rattle.lt_types.proofs.Naming.{named_used}
use Rattle.lt_ast.proofs.Public.{traces_list}
use Rattle.lt_types.proofs.+check.Goals as goal

pub expressions::check_expr-loop-operator-preserved : goal.expressions::check_expr-loop-operator-preserved
expressions::check_expr-loop-operator-preserved t c = grind (arith, common_steps)

pub expressions::check_expr-returns-in_err-push : goal.expressions::check_expr-returns-in_err-push
expressions::check_expr-returns-in_err-push t c = grind (arith, leads)

pub expressions::check_expr-returns-in_err-kind : goal.expressions::check_expr-returns-in_err-kind
expressions::check_expr-returns-in_err-kind t c = grind (arith, leads)

pub expressions::check_expr-returns-in_err-other : goal.expressions::check_expr-returns-in_err-other
expressions::check_expr-returns-in_err-other t c = grind (arith, leads, turned)

pub expressions::check_expr-returns-in_err-kind-2 : goal.expressions::check_expr-returns-in_err-kind-2
expressions::check_expr-returns-in_err-kind-2 t c = grind (arith, leads, turned)

pub expressions::check_expr-returns : goal.expressions::check_expr-returns
expressions::check_expr-returns t c = grind arith

pub expressions::check_operand-returns-in_err-kind-in-Unary : goal.expressions::check_operand-returns-in_err-kind-in-Unary
expressions::check_operand-returns-in_err-kind-in-Unary t c = grind (arith, leads)

pub expressions::check_operand-returns-in_err-tested-in-If : goal.expressions::check_operand-returns-in_err-tested-in-If
expressions::check_operand-returns-in_err-tested-in-If t c = grind (arith, leads)

pub expressions::check_operand-returns-in_err-kind-in-If : goal.expressions::check_operand-returns-in_err-kind-in-If
expressions::check_operand-returns-in_err-kind-in-If t c = grind (arith, leads)

pub expressions::check_operand-returns-in_err-other-in-If : goal.expressions::check_operand-returns-in_err-other-in-If
expressions::check_operand-returns-in_err-other-in-If t c = grind (arith, leads)

pub expressions::check_operand-returns-in-Flag : goal.expressions::check_operand-returns-in-Flag
expressions::check_operand-returns-in-Flag t c = grind arith

pub expressions::check_operand-returns-in-Named : goal.expressions::check_operand-returns-in-Named
expressions::check_operand-returns-in-Named t c = grind (arith, named_used)

pub expressions::check_operand-returns-in-Number : goal.expressions::check_operand-returns-in-Number
expressions::check_operand-returns-in-Number t c = grind arith

pub expressions::check_operand-returns-in-Paren : goal.expressions::check_operand-returns-in-Paren
expressions::check_operand-returns-in-Paren t c = grind arith

pub expressions::check_operand-returns-in-Pre : goal.expressions::check_operand-returns-in-Pre
expressions::check_operand-returns-in-Pre t c = grind arith

pub expressions::check_operand-returns-in_ok-kind-in-Unary : goal.expressions::check_operand-returns-in_ok-kind-in-Unary
expressions::check_operand-returns-in_ok-kind-in-Unary t c = grind arith

pub expressions::check_operand-returns-in_ok-other-in-If : goal.expressions::check_operand-returns-in_ok-other-in-If
expressions::check_operand-returns-in_ok-other-in-If t c = grind arith

pub expressions::check_use-returns-in-None : goal.expressions::check_use-returns-in-None
expressions::check_use-returns-in-None t c = grind arith

pub expressions::check_use-returns-in-Some : goal.expressions::check_use-returns-in-Some
expressions::check_use-returns-in-Some t c = grind arith

pub expressions::check_call-returns-then-is_none : goal.expressions::check_call-returns-then-is_none
expressions::check_call-returns-then-is_none t c = grind (arith, leads)

pub expressions::check_call-returns-in_err-kinds : goal.expressions::check_call-returns-in_err-kinds
expressions::check_call-returns-in_err-kinds t c = grind (arith, leads)

pub expressions::check_call-returns : goal.expressions::check_call-returns
expressions::check_call-returns t c = grind arith

pub expressions::check_args-loop-arg-preserved : goal.expressions::check_args-loop-arg-preserved
expressions::check_args-loop-arg-preserved t c = grind (arith, common_steps)

pub expressions::check_args-returns-in_err-check_arg : goal.expressions::check_args-returns-in_err-check_arg
expressions::check_args-returns-in_err-check_arg t c = grind (arith, leads, drop_next)

pub expressions::check_args-returns-in_err-push : goal.expressions::check_args-returns-in_err-push
expressions::check_args-returns-in_err-push t c = grind (arith, leads, drop_next)

pub expressions::check_args-returns : goal.expressions::check_args-returns
expressions::check_args-returns t c = grind (arith, common_steps)

pub expressions::check_arg-returns-in_err-check_braces-in-Trace : goal.expressions::check_arg-returns-in_err-check_braces-in-Trace
expressions::check_arg-returns-in_err-check_braces-in-Trace t c = grind (arith, leads)

pub expressions::check_arg-returns-in-Value : goal.expressions::check_arg-returns-in-Value
expressions::check_arg-returns-in-Value t c = grind arith

pub expressions::check_arg-returns-in_ok-check_braces-in-Trace : goal.expressions::check_arg-returns-in_ok-check_braces-in-Trace
expressions::check_arg-returns-in_ok-check_braces-in-Trace t c = grind arith

pub groups::check_groups-loop-group-preserved : goal.groups::check_groups-loop-group-preserved
groups::check_groups-loop-group-preserved t c =
    record {
      refusals =
          c.loop-group.invariant.refusals
          ∙ groups_next (role_view c.args.role) c.args.from c.loop-group.scope c.check_group.new.scope c.deref-group-items.result.now c.loop-group.group-index c.group-item.result
          (search rules) c.group-item.is c.loop-group.invariant.from c.in_ok-check_group.ensures.answered c.in_ok-check_group.ensures.declared;
      declared =
          c.loop-group.invariant.declared
          ∙ with_groups_next (role_view c.args.role) c.loop-group.scope c.check_group.new.scope c.deref-group-items.result.now c.loop-group.group-index c.group-item.result
          (search rules) c.group-item.is c.in_ok-check_group.ensures.declared;
      from = group_from (role_view c.args.role) c.args.from c.loop-group.scope c.check_group.new.scope (group_of c.group-item.result) c.loop-group.invariant.from c.in_ok-check_group.ensures.declared;
    }

pub groups::check_groups-loop-group-init : goal.groups::check_groups-loop-group-init
groups::check_groups-loop-group-init t c = grind (arith, groups_steps)

pub groups::check_groups-returns-in_err-check_group : goal.groups::check_groups-returns-in_err-check_group
groups::check_groups-returns-in_err-check_group t c = grind (arith, leads, groups_steps)

pub groups::check_groups-returns : goal.groups::check_groups-returns
groups::check_groups-returns t c = grind (arith, common_steps)

pub groups::check_group-returns-in_err-check_new_names : goal.groups::check_group-returns-in_err-check_new_names
groups::check_group-returns-in_err-check_new_names t c = grind (arith, leads)

pub groups::check_group-returns-in_err-check_range : goal.groups::check_group-returns-in_err-check_range
groups::check_group-returns-in_err-check_range t c = grind (arith, leads)

pub groups::check_group-returns-in_err-first : goal.groups::check_group-returns-in_err-first
groups::check_group-returns-in_err-first t c = grind (arith, leads)

pub groups::check_group-returns-in_err-check_form : goal.groups::check_group-returns-in_err-check_form
groups::check_group-returns-in_err-check_form t c = grind (arith, leads)

pub groups::check_group-returns-in_err-check_first_kind : goal.groups::check_group-returns-in_err-check_first_kind
groups::check_group-returns-in_err-check_first_kind t c = grind (arith, leads)

pub groups::check_group-returns : goal.groups::check_group-returns
groups::check_group-returns t c = grind arith

pub groups::check_first-returns-in_err-check_expr-in-Some : goal.groups::check_first-returns-in_err-check_expr-in-Some
groups::check_first-returns-in_err-check_expr-in-Some t c = grind (arith, leads)

pub groups::check_first-returns-in-None : goal.groups::check_first-returns-in-None
groups::check_first-returns-in-None t c = grind arith

pub groups::check_first-returns-in_ok-check_expr-in-Some : goal.groups::check_first-returns-in_ok-check_expr-in-Some
groups::check_first-returns-in_ok-check_expr-in-Some t c = grind arith

pub groups::check_macro-forget_names-requires : goal.groups::check_macro-forget_names-requires
groups::check_macro-forget_names-requires t c = grind (arith, scope_ends)

pub groups::check_macro-returns-in_err-check_params : goal.groups::check_macro-returns-in_err-check_params
groups::check_macro-returns-in_err-check_params t c = grind (arith, macro_params_first)

pub groups::check_macro-returns-in_err-check_body : goal.groups::check_macro-returns-in_err-check_body
groups::check_macro-returns-in_err-check_body t c = grind (arith, leads, macro_parts)

pub groups::check_macro-returns : goal.groups::check_macro-returns
groups::check_macro-returns t c = grind (arith, macro_parts, scope_ends)

pub groups::check_params-returns-in-None : goal.groups::check_params-returns-in-None
groups::check_params-returns-in-None t c = grind arith

pub groups::check_params-returns-in-Some : goal.groups::check_params-returns-in-Some
groups::check_params-returns-in-Some t c = grind arith

pub groups::check_body-returns-in_err-kind-in-Value : goal.groups::check_body-returns-in_err-kind-in-Value
groups::check_body-returns-in_err-kind-in-Value t c = grind (arith, leads)

pub groups::check_body-returns-in-Trace : goal.groups::check_body-returns-in-Trace
groups::check_body-returns-in-Trace t c = grind arith

pub groups::check_body-returns-in_ok-kind-in-Value : goal.groups::check_body-returns-in_ok-kind-in-Value
groups::check_body-returns-in_ok-kind-in-Value t c = grind arith

pub traces::check_trace-returns-in_err-check_bounds-in-Loop : goal.traces::check_trace-returns-in_err-check_bounds-in-Loop
traces::check_trace-returns-in_err-check_bounds-in-Loop t c = grind (arith, leads)

pub traces::check_trace-returns-in_err-kind-in-Assert : goal.traces::check_trace-returns-in_err-kind-in-Assert
traces::check_trace-returns-in_err-kind-in-Assert t c = grind (arith, leads)

pub traces::check_trace-returns-in_err-check_trace-in-Assert : goal.traces::check_trace-returns-in_err-check_trace-in-Assert
traces::check_trace-returns-in_err-check_trace-in-Assert t c = grind (arith, leads)

pub traces::check_trace-returns-in_err-check_exception-in-Catch : goal.traces::check_trace-returns-in_err-check_exception-in-Catch
traces::check_trace-returns-in_err-check_exception-in-Catch t c = grind (arith, leads)

pub traces::check_trace-returns-in_err-check_trace-in-Catch : goal.traces::check_trace-returns-in_err-check_trace-in-Catch
traces::check_trace-returns-in_err-check_trace-in-Catch t c = grind (arith, leads)

pub traces::check_trace-returns-in_err-check_trace-in-Try : goal.traces::check_trace-returns-in_err-check_trace-in-Try
traces::check_trace-returns-in_err-check_trace-in-Try t c = grind (arith, leads)

pub traces::check_trace-returns-in_err-kind-in-Value : goal.traces::check_trace-returns-in_err-kind-in-Value
traces::check_trace-returns-in_err-kind-in-Value t c = grind (arith, leads)

pub traces::check_trace-returns-in-Braces : goal.traces::check_trace-returns-in-Braces
traces::check_trace-returns-in-Braces t c = grind arith

pub traces::check_trace-returns-in-Exist : goal.traces::check_trace-returns-in-Exist
traces::check_trace-returns-in-Exist t c = grind arith

pub traces::check_trace-returns-in-Raise : goal.traces::check_trace-returns-in-Raise
traces::check_trace-returns-in-Raise t c = grind arith

pub traces::check_trace-returns-in-Seq : goal.traces::check_trace-returns-in-Seq
traces::check_trace-returns-in-Seq t c = grind (arith, traces_list)

pub traces::check_trace-returns-in_ok-check_bounds-in-Loop : goal.traces::check_trace-returns-in_ok-check_bounds-in-Loop
traces::check_trace-returns-in_ok-check_bounds-in-Loop t c = grind arith

pub traces::check_trace-returns-in_ok-check_trace-in-Assert : goal.traces::check_trace-returns-in_ok-check_trace-in-Assert
traces::check_trace-returns-in_ok-check_trace-in-Assert t c = grind arith

pub traces::check_trace-returns-in_ok-check_trace-in-Catch : goal.traces::check_trace-returns-in_ok-check_trace-in-Catch
traces::check_trace-returns-in_ok-check_trace-in-Catch t c = grind arith

pub traces::check_trace-returns-in_ok-check_trace-in-Try : goal.traces::check_trace-returns-in_ok-check_trace-in-Try
traces::check_trace-returns-in_ok-check_trace-in-Try t c = grind arith

pub traces::check_trace-returns-in_ok-kind-in-Value : goal.traces::check_trace-returns-in_ok-kind-in-Value
traces::check_trace-returns-in_ok-kind-in-Value t c = grind arith

pub traces::check_braces-returns-in-Priority-clause-answered : goal.traces::check_braces-returns-in-Priority-clause-answered
traces::check_braces-returns-in-Priority-clause-answered t c =
    Checks_same c.check_traces.result _ _
    (rows_refusals c.args.scope.now c.in-Priority.parts.items c.deref-in-Priority.result.now c.deref-in-Priority.ensures.value ∙ ap (λ b. braces_refusals c.args.scope.now (braced b)) (sym c.in-Priority.is))
    c.check_traces.ensures.answered

pub traces::check_braces-returns-in-Parallel-clause-answered : goal.traces::check_braces-returns-in-Parallel-clause-answered
traces::check_braces-returns-in-Parallel-clause-answered t c =
    Checks_same c.check_traces-in-Parallel.result _ _
    (rows_refusals c.args.scope.now c.in-Parallel.parts.items c.deref-in-Parallel.result.now c.deref-in-Parallel.ensures.value ∙ ap (λ b. braces_refusals c.args.scope.now (braced b)) (sym c.in-Parallel.is))
    c.check_traces-in-Parallel.ensures.answered

pub traces::check_braces-returns-in-Choice : goal.traces::check_braces-returns-in-Choice
traces::check_braces-returns-in-Choice t c = grind arith

pub traces::check_braces-returns-in-Plain : goal.traces::check_braces-returns-in-Plain
traces::check_braces-returns-in-Plain t c = grind arith

pub traces::check_traces-loop-part-preserved : goal.traces::check_traces-loop-part-preserved
traces::check_traces-loop-part-preserved t c = grind (arith, common_steps)

pub traces::check_traces-returns-in_err-check_trace : goal.traces::check_traces-returns-in_err-check_trace
traces::check_traces-returns-in_err-check_trace t c = grind (arith, leads, drop_next)

pub traces::check_traces-returns : goal.traces::check_traces-returns
traces::check_traces-returns t c = grind (arith, common_steps)

pub traces::check_parts-loop-part-init : goal.traces::check_parts-loop-part-init
traces::check_parts-loop-part-init t c = grind (arith, parts_steps)

pub traces::check_parts-loop-part-preserved : goal.traces::check_parts-loop-part-preserved
traces::check_parts-loop-part-preserved t c = grind (arith, common_steps)

pub traces::check_parts-returns-in_err-check_part : goal.traces::check_parts-returns-in_err-check_part
traces::check_parts-returns-in_err-check_part t c = grind (arith, leads, parts_steps)

pub traces::check_parts-returns : goal.traces::check_parts-returns
traces::check_parts-returns t c = grind (arith, common_steps)

pub traces::check_part-returns-in_err-kind : goal.traces::check_part-returns-in_err-kind
traces::check_part-returns-in_err-kind t c = grind (arith, leads)

pub traces::check_part-returns-in_err-check_kind : goal.traces::check_part-returns-in_err-check_kind
traces::check_part-returns-in_err-check_kind t c = grind (arith, leads)

pub traces::check_part-returns : goal.traces::check_part-returns
traces::check_part-returns t c = grind arith

pub traces::check_bounds-returns-in_err-kind-in-Between : goal.traces::check_bounds-returns-in_err-kind-in-Between
traces::check_bounds-returns-in_err-kind-in-Between t c = grind (arith, leads)

pub traces::check_bounds-returns-in_err-check_kind-in-Between : goal.traces::check_bounds-returns-in_err-check_kind-in-Between
traces::check_bounds-returns-in_err-check_kind-in-Between t c = grind (arith, leads)

pub traces::check_bounds-returns-in_err-kind-in-Between-2 : goal.traces::check_bounds-returns-in_err-kind-in-Between-2
traces::check_bounds-returns-in_err-kind-in-Between-2 t c = grind (arith, leads)

pub traces::check_bounds-returns-in-Forever : goal.traces::check_bounds-returns-in-Forever
traces::check_bounds-returns-in-Forever t c = grind arith

pub traces::check_bounds-returns-in_ok-kind-in-Between-2 : goal.traces::check_bounds-returns-in_ok-kind-in-Between-2
traces::check_bounds-returns-in_ok-kind-in-Between-2 t c = grind arith

pub traces::check_handler-returns-in-None : goal.traces::check_handler-returns-in-None
traces::check_handler-returns-in-None t c = grind arith

pub traces::check_handler-returns-in-Some : goal.traces::check_handler-returns-in-Some
traces::check_handler-returns-in-Some t c = grind arith

pub traces::check_scoped-forget_names-requires : goal.traces::check_scoped-forget_names-requires
traces::check_scoped-forget_names-requires t c = grind (arith, scope_ends)

pub traces::check_scoped-forget_exceptions-requires : goal.traces::check_scoped-forget_exceptions-requires
traces::check_scoped-forget_exceptions-requires t c = grind (arith, scope_ends)

pub traces::check_scoped-returns-in_err-check_groups-in-Exist : goal.traces::check_scoped-returns-in_err-check_groups-in-Exist
traces::check_scoped-returns-in_err-check_groups-in-Exist t c = grind (arith, leads)

pub traces::check_scoped-returns-in_err-check_macro-in-Let : goal.traces::check_scoped-returns-in_err-check_macro-in-Let
traces::check_scoped-returns-in_err-check_macro-in-Let t c = grind (arith, leads)

pub traces::check_scoped-returns-in_err-declare_macro-in-Let : goal.traces::check_scoped-returns-in_err-declare_macro-in-Let
traces::check_scoped-returns-in_err-declare_macro-in-Let t c = grind (arith, leads)

pub traces::check_scoped-returns-in_err-check_new_exceptions-in-Exceptions : goal.traces::check_scoped-returns-in_err-check_new_exceptions-in-Exceptions
traces::check_scoped-returns-in_err-check_new_exceptions-in-Exceptions t c = grind (arith, leads)

pub traces::check_scoped-returns-in_err-declare_exceptions-in-Exceptions : goal.traces::check_scoped-returns-in_err-declare_exceptions-in-Exceptions
traces::check_scoped-returns-in_err-declare_exceptions-in-Exceptions t c = grind (arith, leads)

pub traces::check_scoped-returns-in_err-declare_exception-in-Trap : goal.traces::check_scoped-returns-in_err-declare_exception-in-Trap
traces::check_scoped-returns-in_err-declare_exception-in-Trap t c = grind (arith, leads)

pub traces::check_scoped-returns-in_err-check_trace-in-Trap : goal.traces::check_scoped-returns-in_err-check_trace-in-Trap
traces::check_scoped-returns-in_err-check_trace-in-Trap t c = grind (arith, leads)

pub traces::check_scoped-returns-in_err-check_handler-in-Trap : goal.traces::check_scoped-returns-in_err-check_handler-in-Trap
traces::check_scoped-returns-in_err-check_handler-in-Trap t c = grind (arith, leads)

pub traces::check_scoped-returns-in_err-check_trace-in-Exceptions : goal.traces::check_scoped-returns-in_err-check_trace-in-Exceptions
traces::check_scoped-returns-in_err-check_trace-in-Exceptions t c = grind (arith, leads)

pub traces::check_scoped-returns-in_err-check_trace-in-Exist : goal.traces::check_scoped-returns-in_err-check_trace-in-Exist
traces::check_scoped-returns-in_err-check_trace-in-Exist t c = grind (arith, leads)

pub traces::check_scoped-returns-in_err-check_trace-in-Let : goal.traces::check_scoped-returns-in_err-check_trace-in-Let
traces::check_scoped-returns-in_err-check_trace-in-Let t c = grind (arith, leads)

pub traces::check_scoped-returns-in_ok-check_handler-in-Trap : goal.traces::check_scoped-returns-in_ok-check_handler-in-Trap
traces::check_scoped-returns-in_ok-check_handler-in-Trap t c = grind (arith, scope_ends)

pub traces::check_scoped-returns-in_ok-check_trace-in-Exceptions : goal.traces::check_scoped-returns-in_ok-check_trace-in-Exceptions
traces::check_scoped-returns-in_ok-check_trace-in-Exceptions t c = grind (arith, scope_ends)

pub traces::check_scoped-returns-in_ok-check_trace-in-Exist : goal.traces::check_scoped-returns-in_ok-check_trace-in-Exist
traces::check_scoped-returns-in_ok-check_trace-in-Exist t c = grind (arith, scope_ends)

pub traces::check_scoped-returns-in_ok-check_trace-in-Let : goal.traces::check_scoped-returns-in_ok-check_trace-in-Let
traces::check_scoped-returns-in_ok-check_trace-in-Let t c = grind (arith, scope_ends)
