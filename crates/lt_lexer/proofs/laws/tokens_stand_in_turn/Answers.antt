use Rattle.lt_lexer.proofs.Places.{stand_in_turn}
use Rattle.lt_lexer.proofs.laws.tokens_stand_in_turn.Goals as goal

pub returns : goal.returns
returns c = stand_in_turn
