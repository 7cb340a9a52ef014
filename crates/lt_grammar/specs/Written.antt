-- What it means that a program is written with the tokens that spell it.
use Rattle.std.specs.Prelude.{◌≡◌, ℕ, List, [], ◌∷◌, map}
use Rattle.lt_ast.specs.declared.sign.Sign.TheVariants as t
use Rattle.lt_ast.specs.Signs.{spelled}
use Rattle.lt_ast.specs.Syntax.{Declaration}
use Rattle.lt_ast.specs.Tokens.{Written, tokens_of}
use Rattle.lt_grammar.specs.Lexemes.{Lexeme, Lexemes, lexeme}
use Rattle.lt_grammar.specs.Grammar.{SpellsWithin}

-- a token without its place
abbrev pub written_of : Lexeme → Written
written_of (lexeme sign w at) = record { sign = sign; text = w }

-- A keyword or a symbol has the letters of its sign; a name and a number may have any.
abbrev pub IsSpelled : Lexeme → Type 0
IsSpelled (lexeme t.Name w at) = Unit {0}
IsSpelled (lexeme t.Number w at) = Unit {0}
IsSpelled (lexeme sign w at) = w ≡ spelled sign

-- Each of them has the letters of its sign.
abbrev pub AreSpelled : Lexemes → Type 0
AreSpelled [] = Unit {0}
AreSpelled (token ∷ ts) = IsSpelled token × AreSpelled ts

-- A program is written with the tokens that spell it, where each of them has the letters of its sign.
abbrev pub WrittenAsSpelled : Type 0
WrittenAsSpelled = (most : ℕ) (ts : Lexemes) (x : List Declaration) → AreSpelled ts → SpellsWithin most ts x → map written_of ts ≡ tokens_of x
