-- Tokens as the grammar sees them.
use Rattle.std.specs.Prelude.{◌≡◌, ℕ, List, ◌∷◌}
use Rattle.lt_ast.specs.declared.sign.Sign.{Sign}
use Rattle.lt_ast.specs.declared.span.Span.{Span}

-- a token: its sign, its bytes, and its place
pub data Lexeme : Type 0 where
  lexeme : Sign → List ℕ → Span → Lexeme

abbrev pub Lexemes : Type 0
Lexemes = List Lexeme

-- They don't begin with this sign.
abbrev pub IsNotFirst : Sign → Lexemes → Type 0
IsNotFirst sign ts = (text : List ℕ) (at : Span) (rest : Lexemes) → ts ≡ lexeme sign text at ∷ rest → ⊥
