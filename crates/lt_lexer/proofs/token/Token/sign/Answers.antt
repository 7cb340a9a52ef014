use Rattle.std.proofs.Common.{ap, ◌∙◌}
use Rattle.std.specs.Option.{unwrap_or}
use Rattle.lt_ast.specs.declared.sign.Sign.TheVariants.{Name}
use Rattle.lt_lexer.specs.inner.Spelling.{sign_spelled}
use Rattle.lt_lexer.proofs.Lexemes.{found_or_name}
use Rattle.lt_lexer.proofs.token.Token.sign.Goals as goal

pub returns-in_default : goal.returns-in_default
returns-in_default c =
    found_or_name c.args.text.now c.args.self.now c.unwrap_or.result c.in_default.not-Number c.requires
    (c.unwrap_or.ensures ∙ ap (λ o. unwrap_or o Name) (c.sign_spelled.ensures ∙ ap sign_spelled c.bytes.ensures.bytes))
