use Rattle.std.proofs.Common.{◌≡◌, ◌<◌, length, ◌+◌, ◌*◌}
use Rattle.lt_ast.specs.declared.span.Span.{Span}
use Rattle.lt_ast.specs.Syntax as s
use Rattle.lt_ast.specs.Syntax.{Exp, Arguments, Alternatives, Traces, Trace, Groupings}
use Rattle.lt_ast.specs.View.{exp}
use Rattle.lt_parser.specs.inner.Tokens.{lexemes}
use Rattle.lt_parser.specs.inner.Onto.{alternatives_after, traces_after, items_after, arguments_onto, alternatives_onto, traces_onto, groups_onto}
use Rattle.lt_parser.specs.inner.Reading.{Goal, groups, some_arguments, an_exp, more_exp, more_arguments, more_alternatives, more_traces, more_items, more_groups, outcome}
use Rattle.lt_parser.proofs.+parser.Given as goal
use Rattle.lt_grammar.specs.Nesting.{most_levels}

abbrev pub decreases-expressions::parse_first_operand : goal.decreases-expressions::parse_first_operand
decreases-expressions::parse_first_operand l = 16 * length l.tokens.now + 1

abbrev pub decreases-expressions::parse_named : goal.decreases-expressions::parse_named
decreases-expressions::parse_named l = 16 * length l.tokens.now + 1

abbrev pub decreases-expressions::parse_expr : goal.decreases-expressions::parse_expr
decreases-expressions::parse_expr l = 16 * length l.tokens.now + 2

abbrev pub decreases-expressions::parse_boxed_expr : goal.decreases-expressions::parse_boxed_expr
decreases-expressions::parse_boxed_expr l = 16 * length l.tokens.now + 3

abbrev pub decreases-expressions::parse_unary : goal.decreases-expressions::parse_unary
decreases-expressions::parse_unary l = 16 * length l.tokens.now + 4

abbrev pub decreases-expressions::parse_paren : goal.decreases-expressions::parse_paren
decreases-expressions::parse_paren l = 16 * length l.tokens.now + 4

abbrev pub decreases-expressions::parse_conditional : goal.decreases-expressions::parse_conditional
decreases-expressions::parse_conditional l = 16 * length l.tokens.now + 4

abbrev pub decreases-expressions::parse_compared : goal.decreases-expressions::parse_compared
decreases-expressions::parse_compared l = 16 * length l.tokens.now + 3

abbrev pub decreases-expressions::parse_right_operand : goal.decreases-expressions::parse_right_operand
decreases-expressions::parse_right_operand l = 16 * length l.tokens.now + 4

abbrev pub decreases-expressions::parse_arg : goal.decreases-expressions::parse_arg
decreases-expressions::parse_arg l = 16 * length l.tokens.now + 4

abbrev pub decreases-expressions::parse_args : goal.decreases-expressions::parse_args
decreases-expressions::parse_args l = 16 * length l.tokens.now + 5

abbrev pub decreases-braces::parse_alternative : goal.decreases-braces::parse_alternative
decreases-braces::parse_alternative l = 16 * length l.tokens.now + 10

abbrev pub decreases-braces::parse_choice : goal.decreases-braces::parse_choice
decreases-braces::parse_choice l = 16 * length l.tokens.now + 11

abbrev pub decreases-braces::parse_priority : goal.decreases-braces::parse_priority
decreases-braces::parse_priority l = 16 * length l.tokens.now + 11

abbrev pub decreases-braces::parse_parallel : goal.decreases-braces::parse_parallel
decreases-braces::parse_parallel l = 16 * length l.tokens.now + 11

abbrev pub decreases-braces::parse_after_first : goal.decreases-braces::parse_after_first
decreases-braces::parse_after_first l = 16 * length l.tokens.now + 11

abbrev pub decreases-braces::parse_braced : goal.decreases-braces::parse_braced
decreases-braces::parse_braced l = 16 * length l.tokens.now + 12

abbrev pub decreases-braces::parse_traces : goal.decreases-braces::parse_traces
decreases-braces::parse_traces l = 16 * length l.tokens.now + 10

abbrev pub decreases-traces::parse_sequence : goal.decreases-traces::parse_sequence
decreases-traces::parse_sequence l = 16 * length l.tokens.now + 6

abbrev pub decreases-traces::parse_more_items : goal.decreases-traces::parse_more_items
decreases-traces::parse_more_items l = 16 * length l.tokens.now + 8

abbrev pub decreases-traces::parse_item : goal.decreases-traces::parse_item
decreases-traces::parse_item l = 16 * length l.tokens.now + 7

abbrev pub decreases-traces::parse_trace : goal.decreases-traces::parse_trace
decreases-traces::parse_trace l = 16 * length l.tokens.now + 9

abbrev pub decreases-traces::parse_boxed_trace : goal.decreases-traces::parse_boxed_trace
decreases-traces::parse_boxed_trace l = 16 * length l.tokens.now + 10

abbrev pub decreases-traces::parse_value : goal.decreases-traces::parse_value
decreases-traces::parse_value l = 16 * length l.tokens.now + 3

abbrev pub decreases-traces::parse_braces : goal.decreases-traces::parse_braces
decreases-traces::parse_braces l = 16 * length l.tokens.now + 13

abbrev pub decreases-traces::parse_loop : goal.decreases-traces::parse_loop
decreases-traces::parse_loop l = 16 * length l.tokens.now + 13

abbrev pub decreases-traces::parse_in_trace : goal.decreases-traces::parse_in_trace
decreases-traces::parse_in_trace l = 16 * length l.tokens.now + 10

abbrev pub decreases-traces::parse_assert : goal.decreases-traces::parse_assert
decreases-traces::parse_assert l = 16 * length l.tokens.now + 13

abbrev pub decreases-traces::parse_exist : goal.decreases-traces::parse_exist
decreases-traces::parse_exist l = 16 * length l.tokens.now + 13

abbrev pub decreases-traces::parse_let : goal.decreases-traces::parse_let
decreases-traces::parse_let l = 16 * length l.tokens.now + 13

abbrev pub decreases-traces::parse_exceptions : goal.decreases-traces::parse_exceptions
decreases-traces::parse_exceptions l = 16 * length l.tokens.now + 13

abbrev pub decreases-traces::parse_guarded : goal.decreases-traces::parse_guarded
decreases-traces::parse_guarded l = 16 * length l.tokens.now + 13

abbrev pub decreases-traces::parse_try : goal.decreases-traces::parse_try
decreases-traces::parse_try l = 16 * length l.tokens.now + 13

abbrev pub decreases-traces::parse_handler : goal.decreases-traces::parse_handler
decreases-traces::parse_handler l = 16 * length l.tokens.now + 10

abbrev pub decreases-traces::parse_bounds : goal.decreases-traces::parse_bounds
decreases-traces::parse_bounds l = 16 * length l.tokens.now + 9

abbrev pub decreases-traces::parse_bound : goal.decreases-traces::parse_bound
decreases-traces::parse_bound l = 16 * length l.tokens.now + 4

abbrev pub decreases-groups::parse_first_value : goal.decreases-groups::parse_first_value
decreases-groups::parse_first_value l = 16 * length l.tokens.now + 5

abbrev pub decreases-groups::parse_group : goal.decreases-groups::parse_group
decreases-groups::parse_group l = 16 * length l.tokens.now + 6

abbrev pub decreases-groups::parse_groups : goal.decreases-groups::parse_groups
decreases-groups::parse_groups l = 16 * length l.tokens.now + 7

abbrev pub decreases-groups::parse_listed_groups : goal.decreases-groups::parse_listed_groups
decreases-groups::parse_listed_groups l = 16 * length l.tokens.now + 8

abbrev pub decreases-groups::parse_params : goal.decreases-groups::parse_params
decreases-groups::parse_params l = 16 * length l.tokens.now + 9

abbrev pub decreases-groups::parse_macro : goal.decreases-groups::parse_macro
decreases-groups::parse_macro l = 16 * length l.tokens.now + 9

abbrev pub decreases-groups::parse_body : goal.decreases-groups::parse_body
decreases-groups::parse_body l = 16 * length l.tokens.now + 10

-- the expression so far, which operators may extend
abbrev pub invariant-expressions::parse_expr-loop-operator : goal.invariant-expressions::parse_expr-loop-operator
invariant-expressions::parse_expr-loop-operator l =
    record {
      reads : (k : Exp → Goal) → outcome most_levels (an_exp l.depth l.low k) (lexemes l.fn.tokens) ≡ outcome most_levels (more_exp l.depth l.low (exp l.left) k) (lexemes l.rest);
      shorter : length l.rest < length l.fn.tokens;
    }

abbrev pub decreases-expressions::parse_expr-loop-operator : goal.decreases-expressions::parse_expr-loop-operator
decreases-expressions::parse_expr-loop-operator l = length l.rest

-- the arguments so far
abbrev pub invariant-expressions::parse_args-loop-next : goal.invariant-expressions::parse_args-loop-next
invariant-expressions::parse_args-loop-next l =
    record {
      reads : (k : Arguments → Goal) → outcome most_levels (some_arguments l.depth k) (lexemes l.fn.tokens) ≡ outcome most_levels (more_arguments l.depth (λ more. k (arguments_onto l.items.items more))) (lexemes l.rest);
      shorter : length l.rest < length l.fn.tokens;
    }

abbrev pub decreases-expressions::parse_args-loop-next : goal.decreases-expressions::parse_args-loop-next
decreases-expressions::parse_args-loop-next l = length l.rest

-- the alternatives so far
abbrev pub invariant-braces::parse_choice-loop-next : goal.invariant-braces::parse_choice-loop-next
invariant-braces::parse_choice-loop-next l =
    record {
      reads : (k : Alternatives → Span → Goal) → outcome most_levels (alternatives_after l.depth l.fn.before.items k) (lexemes l.fn.tokens) ≡ outcome most_levels (more_alternatives l.depth (λ more. k (alternatives_onto l.items.items more))) (lexemes l.rest);
      shorter : length l.rest < length l.fn.tokens;
    }

abbrev pub decreases-braces::parse_choice-loop-next : goal.decreases-braces::parse_choice-loop-next
decreases-braces::parse_choice-loop-next l = length l.rest

-- the traces so far
abbrev pub invariant-braces::parse_traces-loop-next : goal.invariant-braces::parse_traces-loop-next
invariant-braces::parse_traces-loop-next l =
    record {
      reads : (k : Traces → Span → Goal) → outcome most_levels (traces_after l.depth l.sign l.fn.before.items k) (lexemes l.fn.tokens) ≡ outcome most_levels (more_traces l.depth l.sign (λ more. k (traces_onto l.items.items more))) (lexemes l.rest);
      shorter : length l.rest < length l.fn.tokens;
    }

abbrev pub decreases-braces::parse_traces-loop-next : goal.decreases-braces::parse_traces-loop-next
decreases-braces::parse_traces-loop-next l = length l.rest

-- the items so far
abbrev pub invariant-traces::parse_more_items-loop-next : goal.invariant-traces::parse_more_items-loop-next
invariant-traces::parse_more_items-loop-next l =
    record {
      reads : (k : Trace → Goal) → outcome most_levels (items_after l.depth l.fn.before.items k) (lexemes l.fn.tokens) ≡ outcome most_levels (more_items l.depth (λ more. k (s.sequence (traces_onto l.items.items more)))) (lexemes l.rest);
      shorter : length l.rest < length l.fn.tokens;
    }

abbrev pub decreases-traces::parse_more_items-loop-next : goal.decreases-traces::parse_more_items-loop-next
decreases-traces::parse_more_items-loop-next l = length l.rest

-- the groups so far
abbrev pub invariant-groups::parse_groups-loop-next : goal.invariant-groups::parse_groups-loop-next
invariant-groups::parse_groups-loop-next l =
    record {
      reads : (k : Groupings → Goal) → outcome most_levels (groups l.depth l.end k) (lexemes l.fn.tokens) ≡ outcome most_levels (more_groups l.depth l.end (λ more. k (groups_onto l.items.items more))) (lexemes l.rest);
      shorter : length l.rest < length l.fn.tokens;
    }

abbrev pub decreases-groups::parse_groups-loop-next : goal.decreases-groups::parse_groups-loop-next
decreases-groups::parse_groups-loop-next l = length l.rest
