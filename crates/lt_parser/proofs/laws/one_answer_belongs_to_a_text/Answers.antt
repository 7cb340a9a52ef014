use Rattle.lt_parser.proofs.Texts.{some, one_program, one_refusal, program_or_refusal}
use Rattle.lt_parser.proofs.laws.one_answer_belongs_to_a_text.Goals as goal

pub returns-clause-some : goal.returns-clause-some
returns-clause-some c = some

pub returns-clause-one_program : goal.returns-clause-one_program
returns-clause-one_program c = one_program

pub returns-clause-one_refusal : goal.returns-clause-one_refusal
returns-clause-one_refusal c = one_refusal

pub returns-clause-not_both : goal.returns-clause-not_both
returns-clause-not_both c = program_or_refusal
