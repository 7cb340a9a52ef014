use Rattle.lt_lexer.proofs.Divisions.{some_answer, tokenization_one, refusal_one, tokens_or_refusal}
use Rattle.lt_lexer.proofs.laws.one_answer_belongs_to_a_text.Goals as goal

pub returns-clause-some : goal.returns-clause-some
returns-clause-some c = some_answer

pub returns-clause-one_list : goal.returns-clause-one_list
returns-clause-one_list c = tokenization_one

pub returns-clause-one_refusal : goal.returns-clause-one_refusal
returns-clause-one_refusal c = refusal_one

pub returns-clause-not_both : goal.returns-clause-not_both
returns-clause-not_both c = tokens_or_refusal
