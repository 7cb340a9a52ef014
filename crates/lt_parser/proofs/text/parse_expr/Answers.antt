use Rattle.lt_parser.proofs.Placed.{answers_expression, answers_expression_refusal}
use Rattle.lt_parser.proofs.text.parse_expr.Goals as goal

pub returns-clause-only : goal.returns-clause-only
returns-clause-only c = answers_expression c.args.text.now c.expression_of.result c.expression_of.ensures.found c.expression_of.ensures.refused

pub returns-clause-refuses : goal.returns-clause-refuses
returns-clause-refuses c = answers_expression_refusal c.args.text.now c.expression_of.result c.expression_of.ensures.found c.expression_of.ensures.refused
