use Rattle.lt_parser.proofs.Placed.{answers_program, answers_refusal}
use Rattle.lt_parser.proofs.text.parse.Goals as goal

pub returns-clause-only : goal.returns-clause-only
returns-clause-only c = answers_program c.args.text.now c.program_of.result c.program_of.ensures.found c.program_of.ensures.refused

pub returns-clause-refuses : goal.returns-clause-refuses
returns-clause-refuses c = answers_refusal c.args.text.now c.program_of.result c.program_of.ensures.found c.program_of.ensures.refused
