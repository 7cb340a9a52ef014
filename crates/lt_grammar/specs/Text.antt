-- What it means that a text spells a program or an expression.
use Rattle.std.specs.Prelude.{◌≡◌, ℕ, List, [], ◌∷◌, length}
use Rattle.lt_ast.specs.Syntax.{Exp, Declaration}
use Rattle.lt_lexer.specs.declared.token.Token.{Token}
use Rattle.lt_lexer.specs.Source.{token_bytes, IsSign}
use Rattle.lt_lexer.specs.Tokenization.{IsTokenization}
use Rattle.lt_grammar.specs.Lexemes.{Lexeme, Lexemes, lexeme}
use Rattle.lt_grammar.specs.Program.{Spells, SpellsExpression}

-- a token of a text as the grammar sees it
abbrev pub IsLexemeOf : List ℕ → Token → Lexeme → Type 0
IsLexemeOf text t (lexeme sign letters at) = IsSign text t sign × (letters ≡ token_bytes text t) × (at ≡ t.span)

-- tokens of a text as the grammar sees them, in order
abbrev pub AreLexemesOf : List ℕ → List Token → Lexemes → Type 0
AreLexemesOf text [] [] = Unit {0}
AreLexemesOf text (t ∷ ts) (l ∷ ls) = IsLexemeOf text t l × AreLexemesOf text ts ls
AreLexemesOf text [] (l ∷ ls) = ⊥
AreLexemesOf text (t ∷ ts) [] = ⊥

-- these are all the tokens of the text
abbrev pub HasLexemes : List ℕ → Lexemes → Type 0
HasLexemes text ls = (tokens : List Token) × IsTokenization text tokens × AreLexemesOf text tokens ls

-- The text spells this program.
abbrev pub IsProgramOf : List ℕ → List Declaration → Type 0
IsProgramOf text x = (ls : Lexemes) × HasLexemes text ls × Spells ls x

-- The text spells this expression.
abbrev pub IsExpressionOf : List ℕ → Exp → Type 0
IsExpressionOf text e = (ls : Lexemes) × HasLexemes text ls × SpellsExpression ls e

-- where the rest of a text's tokens begins: at the first of them, or where the text ends
abbrev pub start_of : List ℕ → Lexemes → ℕ
start_of text [] = length text
start_of text (lexeme sign letters at ∷ ls) = at.start
