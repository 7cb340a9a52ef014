use Rattle.lt_lexer.proofs.Apart.{reads_apart}
use Rattle.lt_lexer.proofs.laws.tokens_apart_are_the_same.Goals as goal

pub returns : goal.returns
returns c = reads_apart
