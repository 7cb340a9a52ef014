use Rattle.lt_lexer.proofs.Answering.{answers_tokens, answers_refusal}
use Rattle.lt_lexer.proofs.lexer.lex.Goals as goal

pub returns-clause-only : goal.returns-clause-only
returns-clause-only c = answers_tokens c.args.text.now c.tokens_of.result c.tokens_of.ensures.found c.tokens_of.ensures.refused

pub returns-clause-refuses : goal.returns-clause-refuses
returns-clause-refuses c = answers_refusal c.args.text.now c.tokens_of.result c.tokens_of.ensures.found c.tokens_of.ensures.refused
