-- The parser's tokens as the grammar sees them.
use Rattle.std.specs.Prelude.{◌≡◌, ℕ, List, ◌∷◌, map}
use Rattle.lt_ast.specs.declared.sign.Sign.{Sign}
use Rattle.lt_ast.specs.declared.span.Span.{Span}
use Rattle.lt_lexer.specs.Source.{lexeme_span}
use Rattle.lt_lexer.specs.declared.lexeme.Lexeme.{Lexeme as Token}
use Rattle.lt_grammar.specs.Lexemes.{Lexeme, lexeme, Lexemes}

-- a token
abbrev pub lexeme_of : Token → Lexeme
lexeme_of token = lexeme token.sign token.text.now (lexeme_span token)

-- tokens in turn
abbrev pub lexemes : List Token → Lexemes
lexemes tokens = map lexeme_of tokens

-- They begin with this sign, and the rest follows.
abbrev pub Begins : Sign → Span → Lexemes → Lexemes → Type 0
Begins sign at ts rest = (text : List ℕ) × (ts ≡ lexeme sign text at ∷ rest)
