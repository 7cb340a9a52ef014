use Rattle.std.proofs.Common.{◌∙◌}
use Rattle.lt_lexer.proofs.Lexemes.{own_letters}
use Rattle.lt_lexer.proofs.token.Token.spelling.Goals as goal

pub returns-in_default : goal.returns-in_default
returns-in_default c =
    c.text.ensures ∙ own_letters c.args.text.now c.args.self.now c.args.sign c.requires.sign c.in_default.not-Name c.in_default.not-Number
