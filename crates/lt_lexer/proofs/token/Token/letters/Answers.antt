use Rattle.std.proofs.Common.{rules}
use Rattle.std.specs.Str.{IsUtf8}
use Rattle.lt_lexer.proofs.Letters.{token_utf8}
use Rattle.lt_lexer.proofs.token.Token.letters.Goals as goal

pub unwrap-requires : goal.unwrap-requires
unwrap-requires c =
    let letters : IsUtf8 c.bytes.result.now = rw c.bytes.ensures.bytes (token_utf8 c.args.self.now.kind _ c.requires.is_token) in
    search rules
