use Rattle.lt_lexer.proofs.Signs.{some_sign, one_sign}
use Rattle.lt_lexer.proofs.laws.a_token_is_one_sign.Goals as goal

pub returns-clause-some : goal.returns-clause-some
returns-clause-some c = some_sign

pub returns-clause-one : goal.returns-clause-one
returns-clause-one c = one_sign
