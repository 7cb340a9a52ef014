-- What is found out about an expression: its facts, and the first places in it that are refused.
use Rattle.std.specs.Prelude.{not, ◌&&◌, None}
use Rattle.std.specs.Option.{option_or}
use Rattle.lt_ast.specs.declared.span.Span.{Span}
use Rattle.lt_formula.specs.Facts.{facts_of, unary_facts, binary_facts, choice_facts}
use Rattle.lt_formula.specs.Kinds.{Kinds}
use Rattle.lt_formula.specs.declared.facts.Facts.{Facts}
use Rattle.lt_formula.specs.declared.operator.UnaryOperator.{UnaryOperator}
use Rattle.lt_formula.specs.declared.operator.BinaryOperator.{BinaryOperator}
use Rattle.lt_macros.specs.Placed.{Placed, bare}
use Rattle.lt_macros.specs.Preorder.{with_parts}
use Rattle.lt_term.specs.Classes.{is_linear, is_number}
use Rattle.lt_expand.specs.Classes.{failing, has_known_condition, is_linear_node}
use Rattle.lt_macros.specs.Failing.{unless}
use Rattle.lt_expand.specs.inner.Firsts.{first}
use Rattle.lt_expand.specs.declared.kinds.Kinds as code
use Rattle.lt_expand.specs.declared.classes.Judged.{Judged}

-- the kinds of variables
abbrev pub kinds : code.Kinds → Kinds
kinds k = record { inputs = k.inputs.items; outputs = k.outputs.items; locals = k.locals.items }

-- an expression
unfoldable pub judged : Kinds → Placed → Judged
judged ks e = record {
  facts = facts_of ks (bare e);
  not_linear = first (failing (is_linear_node ks) (with_parts e));
  condition = first (failing (has_known_condition ks) (with_parts e));
}

-- where nothing in it is refused
unfoldable pub unrefused : Facts → Judged
unrefused f = record { facts = f; not_linear = None; condition = None }

-- an operator on one part
unfoldable pub unary_judged : UnaryOperator → Judged → Judged
unary_judged op j = record { facts = unary_facts op j.facts; not_linear = j.not_linear; condition = j.condition }

-- an operator on two parts
unfoldable pub binary_judged : BinaryOperator → Judged → Judged → Span → Judged
binary_judged op left right at = record {
  facts = binary_facts op left.facts right.facts;
  not_linear =
      option_or (first (unless (is_linear op left.facts.kind (not left.facts.is_known) (not right.facts.is_known)) at))
      (option_or left.not_linear right.not_linear);
  condition = option_or left.condition right.condition;
}

-- a choice
unfoldable pub choice_judged : Judged → Judged → Judged → Span → Judged
choice_judged c d e at = record {
  facts = choice_facts c.facts d.facts e.facts;
  not_linear = option_or c.not_linear (option_or d.not_linear e.not_linear);
  condition =
      option_or (first (unless (not (is_number d.facts.kind && not c.facts.is_known)) at))
      (option_or c.condition (option_or d.condition e.condition));
}
