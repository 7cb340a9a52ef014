use Rattle.lt_parser.proofs.Texts.{some_of_expression, one_expression, one_expression_refusal, expression_or_refusal}
use Rattle.lt_parser.proofs.laws.one_answer_belongs_to_an_expression.Goals as goal

pub returns-clause-some : goal.returns-clause-some
returns-clause-some c = some_of_expression

pub returns-clause-one_expression : goal.returns-clause-one_expression
returns-clause-one_expression c = one_expression

pub returns-clause-one_refusal : goal.returns-clause-one_refusal
returns-clause-one_refusal c = one_expression_refusal

pub returns-clause-not_both : goal.returns-clause-not_both
returns-clause-not_both c = expression_or_refusal
