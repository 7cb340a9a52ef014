use Rattle.std.proofs.Common.{ℕ, Bool, List, [], ◌∷◌, ◌++◌, Option, ap, sym, ◌∙◌, arith, false, true, refl}
use Rattle.lt_ast.specs.declared.group.TypeName.{TypeName}
use Rattle.lt_ast.specs.declared.sign.Sign.TheVariants as t
use Rattle.lt_ast.specs.declared.span.Span.{Span}
use Rattle.lt_ast.specs.inner.Rows.{weighed, group_of}
use Rattle.lt_ast.specs.Places.{across, span_of}
use Rattle.lt_ast.specs.Syntax as s
use Rattle.lt_ast.specs.Syntax.{called, Exp, Grouping, WrittenRange, Limits, Macro, Parameters, Word}
use Rattle.lt_ast.specs.View.{argument, braced, exp, groupings, written_range, limits, macro, trace, word, words}
use Rattle.lt_parser.specs.declared.traces.Guard.TheVariants as guard
use Rattle.lt_parser.specs.inner.Onto.{arguments_onto, alternatives_onto, traces_onto, traces_after, alternatives_after, choice_after, priority_after, parallel_after, plain_after, items_after, groups_onto}
use Rattle.lt_parser.specs.inner.Parsing.{guard_goal, guarded_trace, parameters_of}
use Rattle.lt_parser.specs.inner.Reading.{Goal, a_bound, a_first, a_group, a_handler, a_macro, a_meaning, a_range, a_ref, a_right_side, a_sign, a_trace, a_type, after_first, after_name, after_weight, an_alternative, an_argument, an_exp, an_item, exist_goal, group_rest, groups, if_goal, in_trace, more_alternatives, more_arguments, more_groups, more_items, more_traces, outcome, sequence_goal, some_arguments, some_braced, some_groups, some_limits, some_parameters, value_goal}
use Rattle.lt_grammar.specs.Nesting.{most_levels}
use Rattle.lt_lexer.specs.Source.{lexeme_span}
use Rattle.lt_parser.proofs.Begins.{no_weight}
use Rattle.lt_parser.proofs.Rows.{parallel_whole, priority_whole, alternatives_whole, sequence_whole, groups_whole}
use Rattle.lt_parser.proofs.Skips.{no_call, no_first, no_handler, no_item, no_limits, no_parameters}
use Rattle.lt_parser.proofs.Steps.{a_group_first, a_negation, a_plain_end, a_sum, a_trace_first, a_value_first, alternatives_end, an_argument_first, an_argument_value, arguments_end, entered, err_by, exp_called, first_sign, groups_end, grows, grows_to, pushed, pushed_to, reads_by, trace_taken, traces_end}
use Rattle.lt_parser.specs.inner.Tokens.{lexemes}
use Rattle.lt_parser.proofs.+parser.Goals as goal

pub expressions::parse_compared-returns-in-Some-clause-reads : goal.expressions::parse_compared-returns-in-Some-clause-reads
expressions::parse_compared-returns-in-Some-clause-reads given c =
    let ts = lexemes c.args.tokens.now in
    reads_by (λ x k. k (exp x.0)) (λ x. lexemes x.1.now) (a_right_side c.args.depth) (an_exp c.args.depth 4) ts ts c.parse_expr.result (λ k. a_negation c.args.depth k ts _ _ c.in-Some.ensures.found) c.parse_expr.ensures.reads

pub expressions::parse_compared-returns-in-None-clause-reads : goal.expressions::parse_compared-returns-in-None-clause-reads
expressions::parse_compared-returns-in-None-clause-reads given c =
    reads_by (λ x k. k (exp x.0)) (λ x. lexemes x.1.now) (a_right_side c.args.depth) (an_exp c.args.depth 6) (lexemes c.args.tokens.now) (lexemes c.args.tokens.now) c.parse_expr-in-None.result
    (λ k. a_sum c.args.depth k (lexemes c.args.tokens.now) c.in-None.ensures.found) c.parse_expr-in-None.ensures.reads

-- what follows the parts of an `if`
abbrev if_otherwise : ℕ → Span → (Exp → Goal) → Exp → Exp → Goal
if_otherwise d at k e f = an_exp d 0 (λ g. k (s.choose e f g (across at (span_of g))))

abbrev if_else : ℕ → Span → (Exp → Goal) → Exp → Exp → Goal
if_else d at k e f = a_sign t.Else (λ q. if_otherwise d at k e f)

abbrev if_holds : ℕ → Span → (Exp → Goal) → Exp → Goal
if_holds d at k e = an_exp d 0 (if_else d at k e)

abbrev if_then : ℕ → Span → (Exp → Goal) → Exp → Goal
if_then d at k e = a_sign t.Then (λ p. if_holds d at k e)

pub expressions::parse_conditional-returns-in_err-rest-clause-reads : goal.expressions::parse_conditional-returns-in_err-rest-clause-reads
expressions::parse_conditional-returns-in_err-rest-clause-reads given c =
    err_by (λ x k. k (exp x.0)) (λ x. lexemes x.1.now) (if_goal c.args.inside c.args.start) (a_sign t.Then) (λ k p. if_holds c.args.inside c.args.start k (exp c.in_ok-condition.condition.value)) (lexemes c.args.tokens.now) (lexemes c.in_ok-condition.rest.now) c.in_err-rest.field-0.0 c.from_residual-in_err-rest.result
    (λ k. c.in_ok-condition.ensures.reads (if_then c.args.inside c.args.start k))
    c.in_err-rest.ensures.reads c.from_residual-in_err-rest.ensures.1

pub expressions::parse_conditional-returns-in_err-holds-clause-reads : goal.expressions::parse_conditional-returns-in_err-holds-clause-reads
expressions::parse_conditional-returns-in_err-holds-clause-reads given c =
    err_by (λ x k. k (exp x.0)) (λ x. lexemes x.1.now) (if_goal c.args.inside c.args.start) (an_exp c.args.inside 0) (λ k. if_else c.args.inside c.args.start k (exp c.in_ok-condition.condition.value)) (lexemes c.args.tokens.now) (lexemes c.in_ok-rest.rest.now) c.in_err-holds.field-0.0 c.from_residual-in_err-holds.result
    (λ k. c.in_ok-condition.ensures.reads (if_then c.args.inside c.args.start k) ∙ c.in_ok-rest.ensures.reads (λ p. if_holds c.args.inside c.args.start k (exp c.in_ok-condition.condition.value)))
    c.in_err-holds.ensures.reads c.from_residual-in_err-holds.ensures.1

pub expressions::parse_conditional-returns-in_err-rest-2-clause-reads : goal.expressions::parse_conditional-returns-in_err-rest-2-clause-reads
expressions::parse_conditional-returns-in_err-rest-2-clause-reads given c =
    err_by (λ x k. k (exp x.0)) (λ x. lexemes x.1.now) (if_goal c.args.inside c.args.start) (a_sign t.Else) (λ k q. if_otherwise c.args.inside c.args.start k (exp c.in_ok-condition.condition.value) (exp c.in_ok-holds.holds.value)) (lexemes c.args.tokens.now) (lexemes c.in_ok-holds.rest.now) c.in_err-rest-2.field-0.0 c.from_residual-in_err-rest-2.result
    (λ k. c.in_ok-condition.ensures.reads (if_then c.args.inside c.args.start k) ∙ c.in_ok-rest.ensures.reads (λ p. if_holds c.args.inside c.args.start k (exp c.in_ok-condition.condition.value)) ∙ c.in_ok-holds.ensures.reads (if_else c.args.inside c.args.start k (exp c.in_ok-condition.condition.value)))
    c.in_err-rest-2.ensures.reads c.from_residual-in_err-rest-2.ensures.1

pub expressions::parse_conditional-returns-in_err-otherwise-clause-reads : goal.expressions::parse_conditional-returns-in_err-otherwise-clause-reads
expressions::parse_conditional-returns-in_err-otherwise-clause-reads given c =
    err_by (λ x k. k (exp x.0)) (λ x. lexemes x.1.now) (if_goal c.args.inside c.args.start) (an_exp c.args.inside 0) (λ k g. k (s.choose (exp c.in_ok-condition.condition.value) (exp c.in_ok-holds.holds.value) g (across c.args.start (span_of g)))) (lexemes c.args.tokens.now) (lexemes c.in_ok-rest-2.rest.now) c.in_err-otherwise.field-0.0 c.from_residual-in_err-otherwise.result
    (λ k. c.in_ok-condition.ensures.reads (if_then c.args.inside c.args.start k) ∙ c.in_ok-rest.ensures.reads (λ p. if_holds c.args.inside c.args.start k (exp c.in_ok-condition.condition.value)) ∙ c.in_ok-holds.ensures.reads (if_else c.args.inside c.args.start k (exp c.in_ok-condition.condition.value)) ∙ c.in_ok-rest-2.ensures.reads (λ q. if_otherwise c.args.inside c.args.start k (exp c.in_ok-condition.condition.value) (exp c.in_ok-holds.holds.value)))
    c.in_err-otherwise.ensures.reads c.from_residual-in_err-otherwise.ensures.1

pub expressions::parse_named-returns-in_ok-new-in-Some-clause-reads : goal.expressions::parse_named-returns-in_ok-new-in-Some-clause-reads
expressions::parse_named-returns-in_ok-new-in-Some-clause-reads given c = λ k.
    let name = word c.args.name in
    let deep = c.in_ok-inside-in-Some.ensures.deep in
    ap (outcome most_levels (after_name c.args.depth name k)) c.in-Some.ensures.found.1
    ∙ entered (λ n. some_arguments n (λ args. k (called name args))) c.args.depth c.in_ok-inside-in-Some.inside (lexemes c.in-Some.rest.now) deep.0 deep.2
    ∙ c.in_ok-args-in-Some.ensures.reads (λ args. k (called name args))
    ∙ ap (λ e. outcome most_levels (k e) (lexemes c.in_ok-args-in-Some.rest.now)) (sym (exp_called c.args.name c.in_ok-new-in-Some.field-0 c.in_ok-args-in-Some.args c.in_ok-new-in-Some.ensures.ok))

pub expressions::parse_named-returns-in-None-clause-reads : goal.expressions::parse_named-returns-in-None-clause-reads
expressions::parse_named-returns-in-None-clause-reads given c = grind (arith, no_call)

pub expressions::parse_args-loop-next-preserved : goal.expressions::parse_args-loop-next-preserved
expressions::parse_args-loop-next-preserved given c = record {
  reads = grows (more_arguments c.args.depth) (λ x. s.argument (argument x)) (λ k l. k l) (some_arguments c.args.depth) (lexemes c.args.tokens.now) (lexemes c.loop-next.rest.now) (lexemes c.in_ok-another.remaining.now) c.loop-next.items.items _ c.in_ok-another.another c.in_ok-push.ensures.items c.loop-next.invariant.reads (λ k. ap (outcome most_levels (more_arguments c.args.depth k)) c.in-Some-after.ensures.found.1 ∙ c.in_ok-another.ensures.reads (λ a. more_arguments c.args.depth (λ l. k (s.argument a l))));
  shorter = omega (arith, c.in-Some-after.ensures.shorter, c.in_ok-another.ensures.shorter, c.loop-next.invariant.shorter);
}

pub expressions::parse_args-loop-next-init : goal.expressions::parse_args-loop-next-init
expressions::parse_args-loop-next-init given c = record {
  reads = λ k. an_argument_first c.args.depth k (lexemes c.args.tokens.now) c.in_default.ensures.found ∙ c.in_ok-first.ensures.reads (λ a. more_arguments c.args.depth (λ more. k (s.argument a more))) ∙ ap (λ xs. outcome most_levels (more_arguments c.args.depth (λ more. k (arguments_onto xs more))) (lexemes c.in_ok-first.rest.now)) (sym c.in_ok-items.ensures.items);
  shorter = c.in_ok-first.ensures.shorter;
}

pub expressions::parse_args-returns-in_err-first-clause-reads : goal.expressions::parse_args-returns-in_err-first-clause-reads
expressions::parse_args-returns-in_err-first-clause-reads given c =
    err_by (λ x k. k (arguments_onto x.0.items.items s.no_arguments)) (λ x. lexemes x.1.now) (some_arguments c.args.depth) (an_argument c.args.depth) (λ k a. more_arguments c.args.depth (λ l. k (s.argument a l))) (lexemes c.args.tokens.now) (lexemes c.args.tokens.now) c.in_err-first.field-0.0 c.from_residual.result
    (λ k. an_argument_first c.args.depth k (lexemes c.args.tokens.now) c.in_default.ensures.found)
    c.in_err-first.ensures.reads c.from_residual.ensures.1

pub expressions::parse_args-returns-in_err-another-clause-reads : goal.expressions::parse_args-returns-in_err-another-clause-reads
expressions::parse_args-returns-in_err-another-clause-reads given c =
    err_by (λ x k. k (arguments_onto x.0.items.items s.no_arguments)) (λ x. lexemes x.1.now) (some_arguments c.args.depth) (an_argument c.args.depth) (λ k a. more_arguments c.args.depth (λ l. k (arguments_onto c.loop-next.items.items (s.argument a l)))) (lexemes c.args.tokens.now) (lexemes c.in-Some-after.next.now) c.in_err-another.field-0.0 c.from_residual-in_err-another.result
    (λ k. c.loop-next.invariant.reads k ∙ ap (outcome most_levels (more_arguments c.args.depth (λ l. k (arguments_onto c.loop-next.items.items l)))) c.in-Some-after.ensures.found.1)
    c.in_err-another.ensures.reads c.from_residual-in_err-another.ensures.1

pub expressions::parse_args-returns-in_err-rest-clause-reads : goal.expressions::parse_args-returns-in_err-rest-clause-reads
expressions::parse_args-returns-in_err-rest-clause-reads given c =
    err_by (λ x k. k (arguments_onto x.0.items.items s.no_arguments)) (λ x. lexemes x.1.now) (some_arguments c.args.depth) (a_sign t.Close) (λ k q. k (arguments_onto c.loop-next.items.items s.no_arguments)) (lexemes c.args.tokens.now) (lexemes c.loop-next.rest.now) c.in_err-rest.field-0.0 c.from_residual-in_err-rest.result
    (λ k. c.loop-next.invariant.reads k ∙ arguments_end c.args.depth (λ l. k (arguments_onto c.loop-next.items.items l)) (lexemes c.loop-next.rest.now) c.in_default-after.ensures.found)
    c.in_err-rest.ensures.reads c.from_residual-in_err-rest.ensures.1

pub expressions::parse_args-returns-clause-reads : goal.expressions::parse_args-returns-clause-reads
expressions::parse_args-returns-clause-reads given c = λ k.
    c.loop-next.invariant.reads k
    ∙ arguments_end c.args.depth (λ l. k (arguments_onto c.loop-next.items.items l)) (lexemes c.loop-next.rest.now) c.in_default-after.ensures.found
    ∙ c.in_ok-rest.ensures.reads (λ q. k (arguments_onto c.loop-next.items.items s.no_arguments))

pub expressions::parse_arg-returns-in_ok-value-in-None-clause-reads : goal.expressions::parse_arg-returns-in_ok-value-in-None-clause-reads
expressions::parse_arg-returns-in_ok-value-in-None-clause-reads given c = grind (arith, an_argument_value)

pub expressions::parse_arg-returns-in_err-value-in-None-clause-reads : goal.expressions::parse_arg-returns-in_err-value-in-None-clause-reads
expressions::parse_arg-returns-in_err-value-in-None-clause-reads given c = grind (arith, an_argument_value)

pub braces::parse_braced-returns-in-Some-clause-reads : goal.braces::parse_braced-returns-in-Some-clause-reads
braces::parse_braced-returns-in-Some-clause-reads given c =
    let d = c.args.depth in
    let rest = lexemes c.in-Some.rest.now in
    reads_by (λ x k. k (braced x.0) x.1) (λ x. lexemes x.2.now) (some_braced d) (choice_after d true c.new.result.items) (lexemes c.args.tokens.now) rest c.parse_choice.result
    (λ k. ap (outcome most_levels (some_braced d k)) c.in-Some.ensures.found.1 ∙ ap (λ xs. outcome most_levels (choice_after d true xs k) rest) (sym c.new.ensures.items))
    c.parse_choice.ensures.reads

pub braces::parse_braced-returns-in-Some-after-clause-reads : goal.braces::parse_braced-returns-in-Some-after-clause-reads
braces::parse_braced-returns-in-Some-after-clause-reads given c =
    let d = c.args.depth in
    let rest = lexemes c.in-Some-after.rest.now in
    reads_by (λ x k. k (braced x.0) x.1) (λ x. lexemes x.2.now) (some_braced d) (priority_after d true c.new-in-Some-after.result.items) (lexemes c.args.tokens.now) rest c.parse_priority.result
    (λ k. ap (outcome most_levels (some_braced d k)) c.in-Some-after.ensures.found.1 ∙ ap (λ xs. outcome most_levels (priority_after d true xs k) rest) (sym c.new-in-Some-after.ensures.items))
    c.parse_priority.ensures.reads

pub braces::parse_braced-returns-in-Some-after-2-clause-reads : goal.braces::parse_braced-returns-in-Some-after-2-clause-reads
braces::parse_braced-returns-in-Some-after-2-clause-reads given c =
    let d = c.args.depth in
    let rest = lexemes c.in-Some-after-2.rest.now in
    reads_by (λ x k. k (braced x.0) x.1) (λ x. lexemes x.2.now) (some_braced d) (parallel_after d true c.new-in-Some-after-2.result.items) (lexemes c.args.tokens.now) rest c.parse_parallel.result
    (λ k. ap (outcome most_levels (some_braced d k)) c.in-Some-after-2.ensures.found.1 ∙ ap (λ xs. outcome most_levels (parallel_after d true xs k) rest) (sym c.new-in-Some-after-2.ensures.items))
    c.parse_parallel.ensures.reads

pub braces::parse_braced-returns-in_err-first-clause-reads : goal.braces::parse_braced-returns-in_err-first-clause-reads
braces::parse_braced-returns-in_err-first-clause-reads given c =
    err_by (λ x k. k (braced x.0) x.1) (λ x. lexemes x.2.now) (some_braced c.args.depth) (a_trace c.args.depth) (λ k x. after_first c.args.depth x k) (lexemes c.args.tokens.now) (lexemes c.args.tokens.now) c.in_err-first.field-0.0 c.from_residual.result
    (λ k. a_trace_first c.args.depth k (lexemes c.args.tokens.now) c.in_default.ensures.found c.in_default-after.ensures.found c.in_default-after-2.ensures.found)
    c.in_err-first.ensures.reads c.from_residual.ensures.1

pub braces::parse_braced-returns-clause-reads : goal.braces::parse_braced-returns-clause-reads
braces::parse_braced-returns-clause-reads given c =
    reads_by (λ x k. k (braced x.0) x.1) (λ x. lexemes x.2.now) (some_braced c.args.depth) (after_first c.args.depth (trace c.in_ok-first.first)) (lexemes c.args.tokens.now) (lexemes c.in_ok-first.rest.now) c.parse_after_first.result
    (λ k. a_trace_first c.args.depth k (lexemes c.args.tokens.now) c.in_default.ensures.found c.in_default-after.ensures.found c.in_default-after-2.ensures.found ∙ c.in_ok-first.ensures.reads (λ x. after_first c.args.depth x k))
    c.parse_after_first.ensures.reads

pub braces::parse_after_first-returns-in-Some-clause-reads : goal.braces::parse_after_first-returns-in-Some-clause-reads
braces::parse_after_first-returns-in-Some-clause-reads given c =
    let d = c.args.depth in
    let rest = lexemes c.in-Some.rest.now in
    let first = after_first d (trace c.args.first) in
    reads_by (λ x k. k (braced x.0) x.1) (λ x. lexemes x.2.now) first (choice_after d false c.in_ok-vec.field-0.items) (lexemes c.args.tokens.now) rest c.parse_choice.result
    (λ k. ap (outcome most_levels (first k)) c.in-Some.ensures.found.1 ∙ ap (λ xs. outcome most_levels (choice_after d false xs k) rest) (sym c.in_ok-vec.ensures.items))
    c.parse_choice.ensures.reads

pub braces::parse_after_first-returns-in-Some-after-clause-reads : goal.braces::parse_after_first-returns-in-Some-after-clause-reads
braces::parse_after_first-returns-in-Some-after-clause-reads given c =
    let d = c.args.depth in
    let rest = lexemes c.in-Some-after.rest.now in
    let first = after_first d (trace c.args.first) in
    reads_by (λ x k. k (braced x.0) x.1) (λ x. lexemes x.2.now) first (priority_after d false c.in_ok-vec-2.field-0.items) (lexemes c.args.tokens.now) rest c.parse_priority.result
    (λ k. ap (outcome most_levels (first k)) c.in-Some-after.ensures.found.1 ∙ ap (λ xs. outcome most_levels (priority_after d false xs k) rest) (sym c.in_ok-vec-2.ensures.items))
    c.parse_priority.ensures.reads

pub braces::parse_after_first-returns-in-Some-after-2-clause-reads : goal.braces::parse_after_first-returns-in-Some-after-2-clause-reads
braces::parse_after_first-returns-in-Some-after-2-clause-reads given c =
    let d = c.args.depth in
    let rest = lexemes c.in-Some-after-2.rest.now in
    let first = after_first d (trace c.args.first) in
    reads_by (λ x k. k (braced x.0) x.1) (λ x. lexemes x.2.now) first (parallel_after d false c.in_ok-vec-3.field-0.items) (lexemes c.args.tokens.now) rest c.parse_parallel.result
    (λ k. ap (outcome most_levels (first k)) c.in-Some-after-2.ensures.found.1 ∙ ap (λ xs. outcome most_levels (parallel_after d false xs k) rest) (sym c.in_ok-vec-3.ensures.items))
    c.parse_parallel.ensures.reads

pub braces::parse_after_first-returns-clause-reads : goal.braces::parse_after_first-returns-clause-reads
braces::parse_after_first-returns-clause-reads given c =
    let d = c.args.depth in
    let ts = lexemes c.args.tokens.now in
    let first = trace c.args.first in
    reads_by (λ x k. k (braced x.0) x.1) (λ x. lexemes x.2.now) (after_first d first) (plain_after first) ts ts c.parse_plain.result
    (λ k. a_plain_end d first k ts c.in_default.ensures.found c.in_default-after.ensures.found c.in_default-after-2.ensures.found)
    c.parse_plain.ensures.reads

pub braces::parse_choice-loop-next-preserved : goal.braces::parse_choice-loop-next-preserved
braces::parse_choice-loop-next-preserved given c = record {
  reads = grows_to (more_alternatives c.args.depth) (λ x. s.alternative (weighed x.weight x.body)) (λ k l. k l) (alternatives_after c.args.depth c.args.before.items) (lexemes c.args.tokens.now) (lexemes c.loop-next.rest.now) (lexemes c.in_ok-another.remaining.now) c.loop-next.items.items _ c.in_ok-another.another c.in_ok-push-2.ensures.items c.loop-next.invariant.reads (λ k. ap (outcome most_levels (more_alternatives c.args.depth k)) c.in-Some.ensures.found.1 ∙ c.in_ok-another.ensures.reads (λ a. more_alternatives c.args.depth (λ l. k (s.alternative a l))));
  shorter = omega (arith, c.in-Some.ensures.shorter, c.in_ok-another.ensures.shorter, c.loop-next.invariant.shorter);
}

pub braces::parse_choice-loop-next-init : goal.braces::parse_choice-loop-next-init
braces::parse_choice-loop-next-init given c = record {
  reads = λ k. c.in_ok-first.ensures.reads (λ x. more_alternatives c.args.depth (λ l. k (alternatives_onto c.args.before.items (s.alternative x l)))) ∙ pushed_to (more_alternatives c.args.depth) (λ x. s.alternative (weighed x.weight x.body)) c.args.before.items _ c.in_ok-first.first (c.in_ok-push.ensures.items ∙ ap (λ l. l ++ c.in_ok-first.first ∷ []) c.in_ok-reserve_exact.ensures.items) k (lexemes c.in_ok-first.rest.now);
  shorter = c.in_ok-first.ensures.shorter;
}

pub braces::parse_choice-returns-clause-reads : goal.braces::parse_choice-returns-clause-reads
braces::parse_choice-returns-clause-reads given c = λ k.
    c.loop-next.invariant.reads (λ xs q. k (s.choice c.args.lead xs) q)
    ∙ alternatives_end c.args.depth (λ l q. k (s.choice c.args.lead (alternatives_onto c.loop-next.items.items l)) q) (lexemes c.loop-next.rest.now) c.in_default.ensures.found
    ∙ c.in_ok-end.ensures.reads (λ q. k (s.choice c.args.lead (alternatives_onto c.loop-next.items.items s.no_alternatives)) q)
    ∙ ap (λ ps. outcome most_levels (k (s.choice c.args.lead ps) c.in_ok-end.end) (lexemes c.in_ok-end.rest.now)) (sym (alternatives_whole c.loop-next.items))

pub braces::parse_choice-returns-in_err-another-clause-reads : goal.braces::parse_choice-returns-in_err-another-clause-reads
braces::parse_choice-returns-in_err-another-clause-reads given c =
    err_by (λ x k. k (braced x.0) x.1) (λ x. lexemes x.2.now) (choice_after c.args.depth c.args.lead c.args.before.items) (an_alternative c.args.depth) (λ k p. more_alternatives c.args.depth (λ l q. k (s.choice c.args.lead (alternatives_onto c.loop-next.items.items (s.alternative p l))) q)) (lexemes c.args.tokens.now) (lexemes c.in-Some.next.now) c.in_err-another.field-0.0 c.from_residual-in_err-another.result
    (λ k. c.loop-next.invariant.reads (λ l q. k (s.choice c.args.lead l) q) ∙ ap (outcome most_levels (more_alternatives c.args.depth (λ l q. k (s.choice c.args.lead (alternatives_onto c.loop-next.items.items l)) q))) c.in-Some.ensures.found.1)
    c.in_err-another.ensures.reads c.from_residual-in_err-another.ensures.1

pub braces::parse_choice-returns-in_err-end-clause-reads : goal.braces::parse_choice-returns-in_err-end-clause-reads
braces::parse_choice-returns-in_err-end-clause-reads given c =
    err_by (λ x k. k (braced x.0) x.1) (λ x. lexemes x.2.now) (choice_after c.args.depth c.args.lead c.args.before.items) (a_sign t.CloseBrace) (λ k q. k (s.choice c.args.lead (alternatives_onto c.loop-next.items.items s.no_alternatives)) q) (lexemes c.args.tokens.now) (lexemes c.loop-next.rest.now) c.in_err-end.field-0.0 c.from_residual-in_err-end.result
    (λ k. c.loop-next.invariant.reads (λ l q. k (s.choice c.args.lead l) q) ∙ alternatives_end c.args.depth (λ l q. k (s.choice c.args.lead (alternatives_onto c.loop-next.items.items l)) q) (lexemes c.loop-next.rest.now) c.in_default.ensures.found)
    c.in_err-end.ensures.reads c.from_residual-in_err-end.ensures.1

pub braces::parse_priority-returns-clause-reads : goal.braces::parse_priority-returns-clause-reads
braces::parse_priority-returns-clause-reads given c = λ k.
    let p = c.in_ok-parts in
    p.ensures.reads (λ xs q. k (s.priority c.args.lead xs) q) ∙ ap (λ b. outcome most_levels (k b p.end) (lexemes p.rest.now)) (sym (priority_whole c.args.lead p.parts))

pub braces::parse_priority-returns-in_err-parts-clause-reads : goal.braces::parse_priority-returns-in_err-parts-clause-reads
braces::parse_priority-returns-in_err-parts-clause-reads given c =
    err_by (λ x k. k (braced x.0) x.1) (λ x. lexemes x.2.now) (priority_after c.args.depth c.args.lead c.args.before.items) (traces_after c.args.depth t.Priority c.args.before.items) (λ k xs q. k (s.priority c.args.lead xs) q) (lexemes c.args.tokens.now) (lexemes c.args.tokens.now) c.in_err-parts.field-0.0 c.from_residual.result
    (λ k. refl) c.in_err-parts.ensures.reads c.from_residual.ensures.1

pub braces::parse_parallel-returns-clause-reads : goal.braces::parse_parallel-returns-clause-reads
braces::parse_parallel-returns-clause-reads given c = λ k.
    let p = c.in_ok-parts in
    p.ensures.reads (λ xs q. k (s.parallel c.args.lead xs) q) ∙ ap (λ b. outcome most_levels (k b p.end) (lexemes p.rest.now)) (sym (parallel_whole c.args.lead p.parts))

pub braces::parse_parallel-returns-in_err-parts-clause-reads : goal.braces::parse_parallel-returns-in_err-parts-clause-reads
braces::parse_parallel-returns-in_err-parts-clause-reads given c =
    err_by (λ x k. k (braced x.0) x.1) (λ x. lexemes x.2.now) (parallel_after c.args.depth c.args.lead c.args.before.items) (traces_after c.args.depth t.Parallel c.args.before.items) (λ k xs q. k (s.parallel c.args.lead xs) q) (lexemes c.args.tokens.now) (lexemes c.args.tokens.now) c.in_err-parts.field-0.0 c.from_residual.result
    (λ k. refl) c.in_err-parts.ensures.reads c.from_residual.ensures.1

pub braces::parse_traces-loop-next-preserved : goal.braces::parse_traces-loop-next-preserved
braces::parse_traces-loop-next-preserved given c = record {
  reads = grows_to (more_traces c.args.depth c.args.sign) (λ x. s.one_trace (trace x)) (λ k l. k l) (traces_after c.args.depth c.args.sign c.args.before.items) (lexemes c.args.tokens.now) (lexemes c.loop-next.rest.now) (lexemes c.in_ok-another.remaining.now) c.loop-next.items.items _ c.in_ok-another.another c.in_ok-push-2.ensures.items c.loop-next.invariant.reads (λ k. ap (outcome most_levels (more_traces c.args.depth c.args.sign k)) c.in-Some.ensures.found.1 ∙ trace_taken c.args.depth c.args.sign k _ _ (lexemes c.in-Some.next.now) c.requires.between ∙ c.in_ok-another.ensures.reads (λ a. more_traces c.args.depth c.args.sign (λ l. k (s.one_trace a l))));
  shorter = omega (arith, c.in-Some.ensures.shorter, c.in_ok-another.ensures.shorter, c.loop-next.invariant.shorter);
}

pub braces::parse_traces-loop-next-init : goal.braces::parse_traces-loop-next-init
braces::parse_traces-loop-next-init given c = record {
  reads = λ k. c.in_ok-first.ensures.reads (λ x. more_traces c.args.depth c.args.sign (λ l. k (traces_onto c.args.before.items (s.one_trace x l)))) ∙ pushed_to (more_traces c.args.depth c.args.sign) (λ x. s.one_trace (trace x)) c.args.before.items _ c.in_ok-first.first (c.in_ok-push.ensures.items ∙ ap (λ l. l ++ c.in_ok-first.first ∷ []) c.in_ok-reserve_exact.ensures.items) k (lexemes c.in_ok-first.rest.now);
  shorter = c.in_ok-first.ensures.shorter;
}

pub braces::parse_traces-returns-in_err-another-clause-reads : goal.braces::parse_traces-returns-in_err-another-clause-reads
braces::parse_traces-returns-in_err-another-clause-reads given c =
    err_by (λ x k. k (traces_onto x.0.items.items s.no_traces) x.1) (λ x. lexemes x.2.now) (traces_after c.args.depth c.args.sign c.args.before.items) (a_trace c.args.depth) (λ k x. more_traces c.args.depth c.args.sign (λ l q. k (traces_onto c.loop-next.items.items (s.one_trace x l)) q)) (lexemes c.args.tokens.now) (lexemes c.in-Some.next.now) c.in_err-another.field-0.0 c.from_residual-in_err-another.result
    (λ k. c.loop-next.invariant.reads k ∙ ap (outcome most_levels (more_traces c.args.depth c.args.sign (λ l q. k (traces_onto c.loop-next.items.items l) q))) c.in-Some.ensures.found.1 ∙ trace_taken c.args.depth c.args.sign (λ l q. k (traces_onto c.loop-next.items.items l) q) _ _ (lexemes c.in-Some.next.now) c.requires.between)
    c.in_err-another.ensures.reads c.from_residual-in_err-another.ensures.1

pub braces::parse_traces-returns-in_err-end-clause-reads : goal.braces::parse_traces-returns-in_err-end-clause-reads
braces::parse_traces-returns-in_err-end-clause-reads given c =
    err_by (λ x k. k (traces_onto x.0.items.items s.no_traces) x.1) (λ x. lexemes x.2.now) (traces_after c.args.depth c.args.sign c.args.before.items) (a_sign t.CloseBrace) (λ k q. k (traces_onto c.loop-next.items.items s.no_traces) q) (lexemes c.args.tokens.now) (lexemes c.loop-next.rest.now) c.in_err-end.field-0.0 c.from_residual-in_err-end.result
    (λ k. c.loop-next.invariant.reads k ∙ traces_end c.args.depth c.args.sign (λ l q. k (traces_onto c.loop-next.items.items l) q) (lexemes c.loop-next.rest.now) c.in_default.ensures.found)
    c.in_err-end.ensures.reads c.from_residual-in_err-end.ensures.1

pub braces::parse_traces-returns-clause-reads : goal.braces::parse_traces-returns-clause-reads
braces::parse_traces-returns-clause-reads given c = λ k.
    c.loop-next.invariant.reads k
    ∙ traces_end c.args.depth c.args.sign (λ l q. k (traces_onto c.loop-next.items.items l) q) (lexemes c.loop-next.rest.now) c.in_default.ensures.found
    ∙ c.in_ok-end.ensures.reads (λ q. k (traces_onto c.loop-next.items.items s.no_traces) q)

pub braces::parse_alternative-returns-in_ok-body-in-None-clause-reads : goal.braces::parse_alternative-returns-in_ok-body-in-None-clause-reads
braces::parse_alternative-returns-in_ok-body-in-None-clause-reads given c = λ k.
    c.if-begins_item.ensures c.args.depth k
    ∙ c.in_ok-value.ensures.reads (λ e. after_weight c.args.depth e k)
    ∙ no_weight most_levels c.args.depth (exp c.in_ok-value.value) k (lexemes c.in_ok-value.rest.now) c.in-None.ensures.found
    ∙ c.in_ok-body-in-None.ensures.reads (λ x. k (s.unweighted x))

pub braces::parse_alternative-returns-in_err-body-in-None-clause-reads : goal.braces::parse_alternative-returns-in_err-body-in-None-clause-reads
braces::parse_alternative-returns-in_err-body-in-None-clause-reads given c =
    err_by (λ x k. k (weighed x.0.weight x.0.body)) (λ x. lexemes x.1.now) (an_alternative c.args.depth) (sequence_goal c.args.depth (s.value (exp c.in_ok-value.value))) (λ k x. k (s.unweighted x)) (lexemes c.args.tokens.now) (lexemes c.in_ok-value.rest.now) c.in_err-body-in-None.field-0.0 c.from_residual-in_err-body-in-None.result
    (λ k. c.if-begins_item.ensures c.args.depth k ∙ c.in_ok-value.ensures.reads (λ e. after_weight c.args.depth e k) ∙ no_weight most_levels c.args.depth (exp c.in_ok-value.value) k (lexemes c.in_ok-value.rest.now) c.in-None.ensures.found)
    c.in_err-body-in-None.ensures.reads c.from_residual-in_err-body-in-None.ensures.1

pub traces::parse_sequence-returns-in_ok-vec-in-Some-clause-reads : goal.traces::parse_sequence-returns-in_ok-vec-in-Some-clause-reads
traces::parse_sequence-returns-in_ok-vec-in-Some-clause-reads given c =
    let rest = lexemes c.in-Some.rest.now in
    reads_by (λ x k. k (trace x.0)) (λ x. lexemes x.1.now) (sequence_goal c.args.depth (trace c.args.first)) (items_after c.args.depth c.in_ok-vec-in-Some.field-0.items) (lexemes c.args.tokens.now) rest c.parse_more_items.result
    (λ k. ap (outcome most_levels (sequence_goal c.args.depth (trace c.args.first) k)) c.in-Some.ensures.found.1 ∙ ap (λ xs. outcome most_levels (items_after c.args.depth xs k) rest) (sym c.in_ok-vec-in-Some.ensures.items)) c.parse_more_items.ensures.reads

pub traces::parse_sequence-returns-in-None-clause-reads : goal.traces::parse_sequence-returns-in-None-clause-reads
traces::parse_sequence-returns-in-None-clause-reads given c = grind (arith, no_item)

pub traces::parse_more_items-loop-next-preserved : goal.traces::parse_more_items-loop-next-preserved
traces::parse_more_items-loop-next-preserved given c = record {
  reads = grows (more_items c.args.depth) (λ x. s.one_trace (trace x)) (λ k l. k (s.sequence l)) (items_after c.args.depth c.args.before.items) (lexemes c.args.tokens.now) (lexemes c.loop-next.rest.now) (lexemes c.in_ok-another.remaining.now) c.loop-next.items.items _ c.in_ok-another.another c.in_ok-push-2.ensures.items c.loop-next.invariant.reads (λ k. ap (outcome most_levels (more_items c.args.depth k)) c.in-Some.ensures.found.1 ∙ c.in_ok-another.ensures.reads (λ a. more_items c.args.depth (λ l. k (s.one_trace a l))));
  shorter = omega (arith, c.in-Some.ensures.shorter, c.in_ok-another.ensures.shorter, c.loop-next.invariant.shorter);
}

pub traces::parse_more_items-loop-next-init : goal.traces::parse_more_items-loop-next-init
traces::parse_more_items-loop-next-init given c = record {
  reads = λ k. c.in_ok-first.ensures.reads (λ x. more_items c.args.depth (λ l. k (s.sequence (traces_onto c.args.before.items (s.one_trace x l))))) ∙ pushed (more_items c.args.depth) (λ x. s.one_trace (trace x)) c.args.before.items _ c.in_ok-first.first c.in_ok-push.ensures.items (λ l. k (s.sequence l)) (lexemes c.in_ok-first.rest.now);
  shorter = c.in_ok-first.ensures.shorter;
}

pub traces::parse_more_items-returns-clause-reads : goal.traces::parse_more_items-returns-clause-reads
traces::parse_more_items-returns-clause-reads given c = λ k.
    c.loop-next.invariant.reads k
    ∙ no_item most_levels c.args.depth (λ l. k (s.sequence (traces_onto c.loop-next.items.items l))) (lexemes c.loop-next.rest.now) c.in_default.ensures.found
    ∙ ap (λ x. outcome most_levels (k x) (lexemes c.loop-next.rest.now)) (sym (sequence_whole (record { items = c.loop-next.items })))

pub traces::parse_more_items-returns-in_err-another-clause-reads : goal.traces::parse_more_items-returns-in_err-another-clause-reads
traces::parse_more_items-returns-in_err-another-clause-reads given c =
    err_by (λ x k. k (trace x.0)) (λ x. lexemes x.1.now) (items_after c.args.depth c.args.before.items) (an_item c.args.depth) (λ k x. more_items c.args.depth (λ l. k (s.sequence (traces_onto c.loop-next.items.items (s.one_trace x l))))) (lexemes c.args.tokens.now) (lexemes c.in-Some.next.now) c.in_err-another.field-0.0 c.from_residual-in_err-another.result
    (λ k. c.loop-next.invariant.reads k ∙ ap (outcome most_levels (more_items c.args.depth (λ l. k (s.sequence (traces_onto c.loop-next.items.items l))))) c.in-Some.ensures.found.1)
    c.in_err-another.ensures.reads c.from_residual-in_err-another.ensures.1

pub traces::parse_item-returns-in_default-sign : goal.traces::parse_item-returns-in_default-sign
traces::parse_item-returns-in_default-sign given c =
    let ts = lexemes c.args.tokens.now in
    let first = c.in-Some.first.now in
    let e = first_sign c.args.tokens.now c.in-Some.rest.now first first.sign c.in-Some.ensures.cases.0 refl in
    let o = c.in_default-sign in
    record {
      reads = reads_by (λ x k. k (trace x.0)) (λ x. lexemes x.1.now) (an_item c.args.depth) (value_goal c.args.depth) ts ts c.parse_value.result
          (λ k. ap (outcome most_levels (an_item c.args.depth k)) e
          ∙ a_value_first c.args.depth k first.sign first.text.now (lexeme_span first) (lexemes c.in-Some.rest.now) o.not-OpenBrace o.not-Loop o.not-Raise o.not-Assert o.not-Exist o.not-Let o.not-Exception o.not-Catch o.not-Trap o.not-Try
          ∙ sym (ap (outcome most_levels (value_goal c.args.depth k)) e))
          c.parse_value.ensures.reads;
      shorter = c.parse_value.ensures.shorter;
    }

pub traces::parse_item-returns-in_ok-deeper-in-Exist-clause-reads : goal.traces::parse_item-returns-in_ok-deeper-in-Exist-clause-reads
traces::parse_item-returns-in_ok-deeper-in-Exist-clause-reads given c =
    let inside = c.in_ok-deeper-in-Exist.field-0 in
    let rest = lexemes c.in-Some.rest.now in
    let deep = c.in_ok-deeper-in-Exist.ensures.deep in
    reads_by (λ x k. k (trace x.0)) (λ x. lexemes x.1.now) (an_item c.args.depth) (exist_goal inside) (lexemes c.args.tokens.now) rest c.parse_exist.result
    (λ k. ap (outcome most_levels (an_item c.args.depth k)) (first_sign c.args.tokens.now c.in-Some.rest.now c.in-Some.first.now t.Exist c.in-Some.ensures.cases.0 c.in-Exist.is) ∙ entered (λ n. exist_goal n k) c.args.depth inside rest deep.0 deep.2)
    c.parse_exist.ensures.reads

pub traces::parse_item-returns-in_ok-deeper-in-Catch-clause-reads : goal.traces::parse_item-returns-in_ok-deeper-in-Catch-clause-reads
traces::parse_item-returns-in_ok-deeper-in-Catch-clause-reads given c =
    let inside = c.in_ok-deeper-in-Catch.field-0 in
    let rest = lexemes c.in-Some.rest.now in
    let deep = c.in_ok-deeper-in-Catch.ensures.deep in
    reads_by (λ x k. k (trace x.0)) (λ x. lexemes x.1.now) (an_item c.args.depth) (guard_goal inside guard.Catch) (lexemes c.args.tokens.now) rest c.parse_guarded.result
    (λ k. ap (outcome most_levels (an_item c.args.depth k)) (first_sign c.args.tokens.now c.in-Some.rest.now c.in-Some.first.now t.Catch c.in-Some.ensures.cases.0 c.in-Catch.is) ∙ entered (λ n. guard_goal n guard.Catch k) c.args.depth inside rest deep.0 deep.2)
    c.parse_guarded.ensures.reads

pub traces::parse_item-returns-in_ok-deeper-in-Trap-clause-reads : goal.traces::parse_item-returns-in_ok-deeper-in-Trap-clause-reads
traces::parse_item-returns-in_ok-deeper-in-Trap-clause-reads given c =
    let inside = c.in_ok-deeper-in-Trap.field-0 in
    let rest = lexemes c.in-Some.rest.now in
    let deep = c.in_ok-deeper-in-Trap.ensures.deep in
    reads_by (λ x k. k (trace x.0)) (λ x. lexemes x.1.now) (an_item c.args.depth) (guard_goal inside guard.Trap) (lexemes c.args.tokens.now) rest c.parse_guarded-in-Trap.result
    (λ k. ap (outcome most_levels (an_item c.args.depth k)) (first_sign c.args.tokens.now c.in-Some.rest.now c.in-Some.first.now t.Trap c.in-Some.ensures.cases.0 c.in-Trap.is) ∙ entered (λ n. guard_goal n guard.Trap k) c.args.depth inside rest deep.0 deep.2)
    c.parse_guarded-in-Trap.ensures.reads

pub traces::parse_guarded-returns-in_err-body-clause-reads : goal.traces::parse_guarded-returns-in_err-body-clause-reads
traces::parse_guarded-returns-in_err-body-clause-reads given c =
    err_by (λ x k. k (trace x.0)) (λ x. lexemes x.1.now) (guard_goal c.args.inside c.args.guard) (in_trace c.args.inside) (λ k. λ x. a_handler c.args.inside (λ h. k (guarded_trace c.args.guard (word c.in_ok-name.name) x h))) (lexemes c.args.tokens.now) (lexemes c.in_ok-name.rest.now) c.in_err-body.field-0.0 c.from_residual-in_err-body.result
    (λ k. c.in_ok-name.ensures.reads (λ n. in_trace c.args.inside (λ x. a_handler c.args.inside (λ h. k (guarded_trace c.args.guard n x h)))))
    c.in_err-body.ensures.reads c.from_residual-in_err-body.ensures.1

pub traces::parse_guarded-returns-in_err-otherwise-clause-reads : goal.traces::parse_guarded-returns-in_err-otherwise-clause-reads
traces::parse_guarded-returns-in_err-otherwise-clause-reads given c =
    err_by (λ x k. k (trace x.0)) (λ x. lexemes x.1.now) (guard_goal c.args.inside c.args.guard) (a_handler c.args.inside) (λ k h. k (guarded_trace c.args.guard (word c.in_ok-name.name) (trace c.in_ok-body.body.value) h)) (lexemes c.args.tokens.now) (lexemes c.in_ok-body.rest.now) c.in_err-otherwise.field-0.0 c.from_residual-in_err-otherwise.result
    (λ k. c.in_ok-name.ensures.reads (λ n. in_trace c.args.inside (λ x. a_handler c.args.inside (λ h. k (guarded_trace c.args.guard n x h)))) ∙ c.in_ok-body.ensures.reads (λ x. a_handler c.args.inside (λ h. k (guarded_trace c.args.guard (word c.in_ok-name.name) x h))))
    c.in_err-otherwise.ensures.reads c.from_residual-in_err-otherwise.ensures.1

pub traces::parse_handler-returns-in-None-clause-reads : goal.traces::parse_handler-returns-in-None-clause-reads
traces::parse_handler-returns-in-None-clause-reads given c = grind (arith, no_handler)

-- what follows the first of two bounds
abbrev between_high : ℕ → (Limits → Goal) → Exp → Goal
between_high d k e = an_exp d 0 (λ f. a_sign t.CloseBracket (λ q. k (s.between e f)))

abbrev between_rest : ℕ → (Limits → Goal) → Exp → Goal
between_rest d k e = a_sign t.Comma (λ p. between_high d k e)

abbrev around_deviation : ℕ → (Limits → Goal) → Exp → Goal
around_deviation d k e = a_bound d (λ f. k (s.around e f))

abbrev around_rest : ℕ → (Limits → Goal) → Exp → Goal
around_rest d k e = a_sign t.Colon (λ p. around_deviation d k e)

pub traces::parse_bounds-returns-in_err-low-clause-reads : goal.traces::parse_bounds-returns-in_err-low-clause-reads
traces::parse_bounds-returns-in_err-low-clause-reads given c =
    err_by (λ x k. k (limits x.0)) (λ x. lexemes x.1.now) (some_limits c.args.inside) (an_exp c.args.inside 0) (λ k. between_rest c.args.inside k) (lexemes c.args.tokens.now) (lexemes c.in-Some.rest.now) c.in_err-low.field-0.0 c.from_residual.result
    (λ k. ap (outcome most_levels (some_limits c.args.inside k)) c.in-Some.ensures.found.1)
    c.in_err-low.ensures.reads c.from_residual.ensures.1

pub traces::parse_bounds-returns-in_err-rest-clause-reads : goal.traces::parse_bounds-returns-in_err-rest-clause-reads
traces::parse_bounds-returns-in_err-rest-clause-reads given c =
    err_by (λ x k. k (limits x.0)) (λ x. lexemes x.1.now) (some_limits c.args.inside) (a_sign t.Comma) (λ k p. between_high c.args.inside k (exp c.in_ok-low.low)) (lexemes c.args.tokens.now) (lexemes c.in_ok-low.rest.now) c.in_err-rest.field-0.0 c.from_residual-in_err-rest.result
    (λ k. ap (outcome most_levels (some_limits c.args.inside k)) c.in-Some.ensures.found.1 ∙ c.in_ok-low.ensures.reads (between_rest c.args.inside k))
    c.in_err-rest.ensures.reads c.from_residual-in_err-rest.ensures.1

pub traces::parse_bounds-returns-in_err-high-clause-reads : goal.traces::parse_bounds-returns-in_err-high-clause-reads
traces::parse_bounds-returns-in_err-high-clause-reads given c =
    err_by (λ x k. k (limits x.0)) (λ x. lexemes x.1.now) (some_limits c.args.inside) (an_exp c.args.inside 0) (λ k f. a_sign t.CloseBracket (λ q. k (s.between (exp c.in_ok-low.low) f))) (lexemes c.args.tokens.now) (lexemes c.in_ok-rest.rest.now) c.in_err-high.field-0.0 c.from_residual-in_err-high.result
    (λ k. ap (outcome most_levels (some_limits c.args.inside k)) c.in-Some.ensures.found.1 ∙ c.in_ok-low.ensures.reads (between_rest c.args.inside k) ∙ c.in_ok-rest.ensures.reads (λ p. between_high c.args.inside k (exp c.in_ok-low.low)))
    c.in_err-high.ensures.reads c.from_residual-in_err-high.ensures.1

pub traces::parse_bounds-returns-in_err-rest-2-clause-reads : goal.traces::parse_bounds-returns-in_err-rest-2-clause-reads
traces::parse_bounds-returns-in_err-rest-2-clause-reads given c =
    err_by (λ x k. k (limits x.0)) (λ x. lexemes x.1.now) (some_limits c.args.inside) (a_sign t.CloseBracket) (λ k q. k (s.between (exp c.in_ok-low.low) (exp c.in_ok-high.high))) (lexemes c.args.tokens.now) (lexemes c.in_ok-high.rest.now) c.in_err-rest-2.field-0.0 c.from_residual-in_err-rest-2.result
    (λ k. ap (outcome most_levels (some_limits c.args.inside k)) c.in-Some.ensures.found.1 ∙ c.in_ok-low.ensures.reads (between_rest c.args.inside k) ∙ c.in_ok-rest.ensures.reads (λ p. between_high c.args.inside k (exp c.in_ok-low.low)) ∙ c.in_ok-high.ensures.reads (λ f. a_sign t.CloseBracket (λ q. k (s.between (exp c.in_ok-low.low) f))))
    c.in_err-rest-2.ensures.reads c.from_residual-in_err-rest-2.ensures.1

pub traces::parse_bounds-returns-in_err-average-clause-reads : goal.traces::parse_bounds-returns-in_err-average-clause-reads
traces::parse_bounds-returns-in_err-average-clause-reads given c =
    err_by (λ x k. k (limits x.0)) (λ x. lexemes x.1.now) (some_limits c.args.inside) (a_bound c.args.inside) (λ k. around_rest c.args.inside k) (lexemes c.args.tokens.now) (lexemes c.in-Some-after.rest.now) c.in_err-average.field-0.0 c.from_residual-in_err-average.result
    (λ k. ap (outcome most_levels (some_limits c.args.inside k)) c.in-Some-after.ensures.found.1)
    c.in_err-average.ensures.reads c.from_residual-in_err-average.ensures.1

pub traces::parse_bounds-returns-in_err-rest-3-clause-reads : goal.traces::parse_bounds-returns-in_err-rest-3-clause-reads
traces::parse_bounds-returns-in_err-rest-3-clause-reads given c =
    err_by (λ x k. k (limits x.0)) (λ x. lexemes x.1.now) (some_limits c.args.inside) (a_sign t.Colon) (λ k p. around_deviation c.args.inside k (exp c.in_ok-average.average)) (lexemes c.args.tokens.now) (lexemes c.in_ok-average.rest.now) c.in_err-rest-3.field-0.0 c.from_residual-in_err-rest-3.result
    (λ k. ap (outcome most_levels (some_limits c.args.inside k)) c.in-Some-after.ensures.found.1 ∙ c.in_ok-average.ensures.reads (around_rest c.args.inside k))
    c.in_err-rest-3.ensures.reads c.from_residual-in_err-rest-3.ensures.1

pub traces::parse_bounds-returns-in_err-deviation-clause-reads : goal.traces::parse_bounds-returns-in_err-deviation-clause-reads
traces::parse_bounds-returns-in_err-deviation-clause-reads given c =
    err_by (λ x k. k (limits x.0)) (λ x. lexemes x.1.now) (some_limits c.args.inside) (a_bound c.args.inside) (λ k f. k (s.around (exp c.in_ok-average.average) f)) (lexemes c.args.tokens.now) (lexemes c.in_ok-rest-3.rest.now) c.in_err-deviation.field-0.0 c.from_residual-in_err-deviation.result
    (λ k. ap (outcome most_levels (some_limits c.args.inside k)) c.in-Some-after.ensures.found.1 ∙ c.in_ok-average.ensures.reads (around_rest c.args.inside k) ∙ c.in_ok-rest-3.ensures.reads (λ p. around_deviation c.args.inside k (exp c.in_ok-average.average)))
    c.in_err-deviation.ensures.reads c.from_residual-in_err-deviation.ensures.1

pub traces::parse_bounds-returns-clause-reads : goal.traces::parse_bounds-returns-clause-reads
traces::parse_bounds-returns-clause-reads given c = grind (arith, no_limits)

pub groups::parse_first_value-returns-in-None-clause-reads : goal.groups::parse_first_value-returns-in-None-clause-reads
groups::parse_first_value-returns-in-None-clause-reads given c = grind (arith, no_first)

-- what follows the parts of a group
abbrev group_first : ℕ → (Grouping → Goal) → List Word → TypeName → Bool → Option WrittenRange → Goal
group_first d k ns kind r i = a_first d (λ v. k (s.grouping ns kind r i v))

abbrev group_range : ℕ → (Grouping → Goal) → List Word → TypeName → Bool → Goal
group_range d k ns kind r = a_range (group_first d k ns kind r)

abbrev group_ref : ℕ → (Grouping → Goal) → List Word → TypeName → Goal
group_ref d k ns kind = a_ref (group_range d k ns kind)

abbrev group_kind : ℕ → (Grouping → Goal) → List Word → Goal
group_kind d k ns = a_type (group_ref d k ns)

pub groups::parse_group-returns-in_err-rest-clause-reads : goal.groups::parse_group-returns-in_err-rest-clause-reads
groups::parse_group-returns-in_err-rest-clause-reads given c =
    err_by (λ x k. k (group_of x.0)) (λ x. lexemes x.1.now) (a_group c.args.depth) (a_sign t.Colon) (λ k p. group_kind c.args.depth k (words c.in_ok-names.names)) (lexemes c.args.tokens.now) (lexemes c.in_ok-names.rest.now) c.in_err-rest.field-0.0 c.from_residual-in_err-rest.result
    (λ k. c.in_ok-names.ensures.reads (group_rest c.args.depth k))
    c.in_err-rest.ensures.reads c.from_residual-in_err-rest.ensures.1

pub groups::parse_group-returns-in_err-kind-clause-reads : goal.groups::parse_group-returns-in_err-kind-clause-reads
groups::parse_group-returns-in_err-kind-clause-reads given c =
    err_by (λ x k. k (group_of x.0)) (λ x. lexemes x.1.now) (a_group c.args.depth) (a_type) (λ k. group_ref c.args.depth k (words c.in_ok-names.names)) (lexemes c.args.tokens.now) (lexemes c.in_ok-rest.rest.now) c.in_err-kind.field-0.0 c.from_residual-in_err-kind.result
    (λ k. c.in_ok-names.ensures.reads (group_rest c.args.depth k) ∙ c.in_ok-rest.ensures.reads (λ p. group_kind c.args.depth k (words c.in_ok-names.names)))
    c.in_err-kind.ensures.reads c.from_residual-in_err-kind.ensures.1

pub groups::parse_group-returns-in_err-range-clause-reads : goal.groups::parse_group-returns-in_err-range-clause-reads
groups::parse_group-returns-in_err-range-clause-reads given c =
    err_by (λ x k. k (group_of x.0)) (λ x. lexemes x.1.now) (a_group c.args.depth) (a_range) (λ k. group_first c.args.depth k (words c.in_ok-names.names) c.in_ok-kind.kind c.parse_ref-by_ref.result.0) (lexemes c.args.tokens.now) (lexemes c.parse_ref-by_ref.result.1.now) c.in_err-range.field-0.0 c.from_residual-in_err-range.result
    (λ k. c.in_ok-names.ensures.reads (group_rest c.args.depth k) ∙ c.in_ok-rest.ensures.reads (λ p. group_kind c.args.depth k (words c.in_ok-names.names)) ∙ c.in_ok-kind.ensures.reads (group_ref c.args.depth k (words c.in_ok-names.names)) ∙ c.parse_ref-by_ref.ensures.reads (group_range c.args.depth k (words c.in_ok-names.names) c.in_ok-kind.kind))
    c.in_err-range.ensures.reads c.from_residual-in_err-range.ensures.1

pub groups::parse_group-returns-in_err-first-clause-reads : goal.groups::parse_group-returns-in_err-first-clause-reads
groups::parse_group-returns-in_err-first-clause-reads given c =
    err_by (λ x k. k (group_of x.0)) (λ x. lexemes x.1.now) (a_group c.args.depth) (a_first c.args.depth) (λ k v. k (s.grouping (words c.in_ok-names.names) c.in_ok-kind.kind c.parse_ref-by_ref.result.0 (written_range c.in_ok-range.range) v)) (lexemes c.args.tokens.now) (lexemes c.in_ok-range.rest.now) c.in_err-first.field-0.0 c.from_residual-in_err-first.result
    (λ k. c.in_ok-names.ensures.reads (group_rest c.args.depth k) ∙ c.in_ok-rest.ensures.reads (λ p. group_kind c.args.depth k (words c.in_ok-names.names))
    ∙ c.in_ok-kind.ensures.reads (group_ref c.args.depth k (words c.in_ok-names.names)) ∙ c.parse_ref-by_ref.ensures.reads (group_range c.args.depth k (words c.in_ok-names.names) c.in_ok-kind.kind)
    ∙ c.in_ok-range.ensures.reads (group_first c.args.depth k (words c.in_ok-names.names) c.in_ok-kind.kind c.parse_ref-by_ref.result.0))
    c.in_err-first.ensures.reads c.from_residual-in_err-first.ensures.1

pub groups::parse_group-returns-clause-reads : goal.groups::parse_group-returns-clause-reads
groups::parse_group-returns-clause-reads given c = λ k.
    c.in_ok-names.ensures.reads (group_rest c.args.depth k) ∙ c.in_ok-rest.ensures.reads (λ p. group_kind c.args.depth k (words c.in_ok-names.names))
    ∙ c.in_ok-kind.ensures.reads (group_ref c.args.depth k (words c.in_ok-names.names)) ∙ c.parse_ref-by_ref.ensures.reads (group_range c.args.depth k (words c.in_ok-names.names) c.in_ok-kind.kind)
    ∙ c.in_ok-range.ensures.reads (group_first c.args.depth k (words c.in_ok-names.names) c.in_ok-kind.kind c.parse_ref-by_ref.result.0)
    ∙ c.in_ok-first.ensures.reads (λ v. k (s.grouping (words c.in_ok-names.names) c.in_ok-kind.kind c.parse_ref-by_ref.result.0 (written_range c.in_ok-range.range) v))

pub groups::parse_groups-loop-next-preserved : goal.groups::parse_groups-loop-next-preserved
groups::parse_groups-loop-next-preserved given c = record {
  reads = grows (more_groups c.args.depth c.args.end) (λ x. s.one_group (group_of x)) (λ k l. k l) (groups c.args.depth c.args.end) (lexemes c.args.tokens.now) (lexemes c.loop-next.rest.now) (lexemes c.in_ok-another.remaining.now) c.loop-next.items.items _ c.in_ok-another.another c.in_ok-push.ensures.items c.loop-next.invariant.reads (λ k. ap (outcome most_levels (more_groups c.args.depth c.args.end k)) c.in-Some.ensures.found.1 ∙ c.in_ok-another.ensures.reads (λ a. more_groups c.args.depth c.args.end (λ l. k (s.one_group a l))));
  shorter = omega (arith, c.in-Some.ensures.shorter, c.in_ok-another.ensures.shorter, c.loop-next.invariant.shorter);
}

pub groups::parse_groups-returns-clause-reads : goal.groups::parse_groups-returns-clause-reads
groups::parse_groups-returns-clause-reads given c = λ k.
    c.loop-next.invariant.reads k
    ∙ groups_end c.args.depth c.args.end (λ l. k (groups_onto c.loop-next.items.items l)) (lexemes c.loop-next.rest.now) c.in_default.ensures.found
    ∙ c.in_ok-rest.ensures.reads (λ p. k (groups_onto c.loop-next.items.items s.no_groups))
    ∙ ap (λ gs. outcome most_levels (k gs) (lexemes c.in_ok-rest.rest.now)) (sym (groups_whole c.loop-next.items))

pub groups::parse_groups-returns-in_err-another-clause-reads : goal.groups::parse_groups-returns-in_err-another-clause-reads
groups::parse_groups-returns-in_err-another-clause-reads given c =
    err_by (λ x k. k (groupings x.0)) (λ x. lexemes x.1.now) (groups c.args.depth c.args.end) (a_group c.args.depth) (λ k g. more_groups c.args.depth c.args.end (λ l. k (groups_onto c.loop-next.items.items (s.one_group g l)))) (lexemes c.args.tokens.now) (lexemes c.in-Some.next.now) c.in_err-another.field-0.0 c.from_residual-in_err-another.result
    (λ k. c.loop-next.invariant.reads k ∙ ap (outcome most_levels (more_groups c.args.depth c.args.end (λ l. k (groups_onto c.loop-next.items.items l)))) c.in-Some.ensures.found.1)
    c.in_err-another.ensures.reads c.from_residual-in_err-another.ensures.1

pub groups::parse_groups-returns-in_err-rest-clause-reads : goal.groups::parse_groups-returns-in_err-rest-clause-reads
groups::parse_groups-returns-in_err-rest-clause-reads given c =
    err_by (λ x k. k (groupings x.0)) (λ x. lexemes x.1.now) (groups c.args.depth c.args.end) (a_sign c.args.end) (λ k q. k (groups_onto c.loop-next.items.items s.no_groups)) (lexemes c.args.tokens.now) (lexemes c.loop-next.rest.now) c.in_err-rest.field-0.0 c.from_residual-in_err-rest.result
    (λ k. c.loop-next.invariant.reads k ∙ groups_end c.args.depth c.args.end (λ l. k (groups_onto c.loop-next.items.items l)) (lexemes c.loop-next.rest.now) c.in_default.ensures.found)
    c.in_err-rest.ensures.reads c.from_residual-in_err-rest.ensures.1

pub groups::parse_listed_groups-returns-in-Some-clause-reads : goal.groups::parse_listed_groups-returns-in-Some-clause-reads
groups::parse_listed_groups-returns-in-Some-clause-reads given c = λ k.
    ap (outcome most_levels (some_groups c.args.inside k)) c.in-Some.ensures.found.1
    ∙ ap (λ xs. outcome most_levels (k (groups_onto xs s.no_groups)) (lexemes c.in-Some.rest.now)) (sym c.new.ensures.items)
    ∙ ap (λ gs. outcome most_levels (k gs) (lexemes c.in-Some.rest.now)) (sym (groups_whole c.new.result))

pub groups::parse_listed_groups-returns-clause-reads : goal.groups::parse_listed_groups-returns-clause-reads
groups::parse_listed_groups-returns-clause-reads given c =
    reads_by (λ x k. k (groupings x.0)) (λ x. lexemes x.1.now) (some_groups c.args.inside) (groups c.args.inside t.Close) (lexemes c.args.tokens.now) (lexemes c.args.tokens.now) c.parse_groups.result
    (λ k. a_group_first c.args.inside k (lexemes c.args.tokens.now) c.in_default.ensures.found) c.parse_groups.ensures.reads

pub groups::parse_params-returns-in-None-clause-reads : goal.groups::parse_params-returns-in-None-clause-reads
groups::parse_params-returns-in-None-clause-reads given c = grind (arith, no_parameters)

-- what follows the parts of a macro
abbrev macro_body : ℕ → (Macro → Goal) → Word → Parameters → TypeName → Goal
macro_body d k n ps kind = a_meaning d kind (λ x. k (s.macro n ps kind x))

abbrev macro_equal : ℕ → (Macro → Goal) → Word → Parameters → TypeName → Goal
macro_equal d k n ps kind = a_sign t.Equal (λ q. macro_body d k n ps kind)

abbrev macro_kind : ℕ → (Macro → Goal) → Word → Parameters → Goal
macro_kind d k n ps = a_type (macro_equal d k n ps)

abbrev macro_colon : ℕ → (Macro → Goal) → Word → Parameters → Goal
macro_colon d k n ps = a_sign t.Colon (λ p. macro_kind d k n ps)

pub groups::parse_macro-returns-in_err-params-clause-reads : goal.groups::parse_macro-returns-in_err-params-clause-reads
groups::parse_macro-returns-in_err-params-clause-reads given c =
    err_by (λ x k. k (macro x.0)) (λ x. lexemes x.1.now) (a_macro c.args.depth) (some_parameters c.args.depth) (λ k. macro_colon c.args.depth k (word c.in_ok-name.name)) (lexemes c.args.tokens.now) (lexemes c.in_ok-name.rest.now) c.in_err-params.field-0.0 c.from_residual-in_err-params.result
    (λ k. c.in_ok-name.ensures.reads (λ n. some_parameters c.args.depth (macro_colon c.args.depth k n)))
    c.in_err-params.ensures.reads c.from_residual-in_err-params.ensures.1

pub groups::parse_macro-returns-in_err-rest-clause-reads : goal.groups::parse_macro-returns-in_err-rest-clause-reads
groups::parse_macro-returns-in_err-rest-clause-reads given c =
    err_by (λ x k. k (macro x.0)) (λ x. lexemes x.1.now) (a_macro c.args.depth) (a_sign t.Colon) (λ k p. macro_kind c.args.depth k (word c.in_ok-name.name) (parameters_of c.in_ok-params.params)) (lexemes c.args.tokens.now) (lexemes c.in_ok-params.rest.now) c.in_err-rest.field-0.0 c.from_residual-in_err-rest.result
    (λ k. c.in_ok-name.ensures.reads (λ n. some_parameters c.args.depth (macro_colon c.args.depth k n)) ∙ c.in_ok-params.ensures.reads (macro_colon c.args.depth k (word c.in_ok-name.name)))
    c.in_err-rest.ensures.reads c.from_residual-in_err-rest.ensures.1

pub groups::parse_macro-returns-in_err-result-clause-reads : goal.groups::parse_macro-returns-in_err-result-clause-reads
groups::parse_macro-returns-in_err-result-clause-reads given c =
    err_by (λ x k. k (macro x.0)) (λ x. lexemes x.1.now) (a_macro c.args.depth) (a_type) (λ k. macro_equal c.args.depth k (word c.in_ok-name.name) (parameters_of c.in_ok-params.params)) (lexemes c.args.tokens.now) (lexemes c.in_ok-rest.rest.now) c.in_err-result.field-0.0 c.from_residual-in_err-result.result
    (λ k. c.in_ok-name.ensures.reads (λ n. some_parameters c.args.depth (macro_colon c.args.depth k n)) ∙ c.in_ok-params.ensures.reads (macro_colon c.args.depth k (word c.in_ok-name.name)) ∙ c.in_ok-rest.ensures.reads (λ p. macro_kind c.args.depth k (word c.in_ok-name.name) (parameters_of c.in_ok-params.params)))
    c.in_err-result.ensures.reads c.from_residual-in_err-result.ensures.1

pub groups::parse_macro-returns-in_err-rest-2-clause-reads : goal.groups::parse_macro-returns-in_err-rest-2-clause-reads
groups::parse_macro-returns-in_err-rest-2-clause-reads given c =
    err_by (λ x k. k (macro x.0)) (λ x. lexemes x.1.now) (a_macro c.args.depth) (a_sign t.Equal) (λ k q. macro_body c.args.depth k (word c.in_ok-name.name) (parameters_of c.in_ok-params.params) c.in_ok-result.result) (lexemes c.args.tokens.now) (lexemes c.in_ok-result.rest.now) c.in_err-rest-2.field-0.0 c.from_residual-in_err-rest-2.result
    (λ k. c.in_ok-name.ensures.reads (λ n. some_parameters c.args.depth (macro_colon c.args.depth k n)) ∙ c.in_ok-params.ensures.reads (macro_colon c.args.depth k (word c.in_ok-name.name)) ∙ c.in_ok-rest.ensures.reads (λ p. macro_kind c.args.depth k (word c.in_ok-name.name) (parameters_of c.in_ok-params.params)) ∙ c.in_ok-result.ensures.reads (macro_equal c.args.depth k (word c.in_ok-name.name) (parameters_of c.in_ok-params.params)))
    c.in_err-rest-2.ensures.reads c.from_residual-in_err-rest-2.ensures.1

pub groups::parse_macro-returns-in_err-body-clause-reads : goal.groups::parse_macro-returns-in_err-body-clause-reads
groups::parse_macro-returns-in_err-body-clause-reads given c =
    err_by (λ x k. k (macro x.0)) (λ x. lexemes x.1.now) (a_macro c.args.depth) (a_meaning c.args.depth c.in_ok-result.result) (λ k x. k (s.macro (word c.in_ok-name.name) (parameters_of c.in_ok-params.params) c.in_ok-result.result x)) (lexemes c.args.tokens.now) (lexemes c.in_ok-rest-2.rest.now) c.in_err-body.field-0.0 c.from_residual-in_err-body.result
    (λ k. c.in_ok-name.ensures.reads (λ n. some_parameters c.args.depth (macro_colon c.args.depth k n)) ∙ c.in_ok-params.ensures.reads (macro_colon c.args.depth k (word c.in_ok-name.name)) ∙ c.in_ok-rest.ensures.reads (λ p. macro_kind c.args.depth k (word c.in_ok-name.name) (parameters_of c.in_ok-params.params)) ∙ c.in_ok-result.ensures.reads (macro_equal c.args.depth k (word c.in_ok-name.name) (parameters_of c.in_ok-params.params)) ∙ c.in_ok-rest-2.ensures.reads (λ q. macro_body c.args.depth k (word c.in_ok-name.name) (parameters_of c.in_ok-params.params) c.in_ok-result.result))
    c.in_err-body.ensures.reads c.from_residual-in_err-body.ensures.1
