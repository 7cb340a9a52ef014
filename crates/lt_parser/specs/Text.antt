-- Why a text spells no program or no expression, and what is answered of a text.
use Rattle.std.specs.Prelude.{◌≡◌, ◌⊎◌, ℕ, List, ◌∷◌, Result, Ok, Err}
use Rattle.lt_ast.specs.declared.expr.Expr.{Expr}
use Rattle.lt_ast.specs.declared.program.Program.{Program}
use Rattle.lt_ast.specs.Syntax.{Exp, Declaration}
use Rattle.lt_ast.specs.View.{exp, program}
use Rattle.lt_lexer.specs.Tokenization as lexer
use Rattle.lt_grammar.specs.Grammar.{SpellsWithin, SpellsExpressionWithin}
use Rattle.lt_grammar.specs.Lexemes.{Lexeme, Lexemes}
use Rattle.lt_grammar.specs.Program.{IsUnexpected, IsTooDeep}
use Rattle.lt_grammar.specs.Text.{HasLexemes, start_of}
use Rattle.lt_parser.specs.declared.refusal.ParseRefusal.{ParseRefusal}
use Rattle.lt_parser.specs.declared.refusal.ParseRefusal.TheVariants.{Lex, Unexpected, TooDeep, Memory}

-- The text spells no tree of this kind, for this reason.
abbrev pub IsRefusalOf :
    {X : Type 0} → (ℕ → Lexemes → X → Type 0) → List ℕ → ParseRefusal → Type 0
-- it has no tokens
IsRefusalOf spells text (Lex refusal) = lexer.IsRefusal text refusal
-- the token at this place is the first that no such tree has there, or the text ends too early
IsRefusalOf spells text (Unexpected place) =
    (ls : Lexemes) × HasLexemes text ls
    × (rest : Lexemes) × IsUnexpected spells ls rest × (place ≡ start_of text rest)
-- the token at this place opens a level too many
IsRefusalOf spells text (TooDeep place) =
    (ls : Lexemes) × HasLexemes text ls
    × (token : Lexeme) × (rest : Lexemes) × IsTooDeep spells ls token rest
    × (place ≡ start_of text (token ∷ rest))
-- want of memory is no reason
IsRefusalOf spells text Memory = ⊥

-- The text spells no program, for this reason.
abbrev pub IsRefusal : List ℕ → ParseRefusal → Type 0
IsRefusal text refusal = IsRefusalOf SpellsWithin text refusal

-- The text spells no expression, for this reason.
abbrev pub IsExpressionRefusal : List ℕ → ParseRefusal → Type 0
IsExpressionRefusal text refusal = IsRefusalOf SpellsExpressionWithin text refusal

-- this program is answered, or that memory ran out
abbrev pub AnswersProgram : List Declaration → Result Program ParseRefusal → Type 0
AnswersProgram x (Ok p) = program p ≡ x
AnswersProgram x (Err answer) = answer ≡ Memory

-- this expression is answered, or that memory ran out
abbrev pub AnswersExpression : Exp → Result Expr ParseRefusal → Type 0
AnswersExpression x (Ok e) = exp e ≡ x
AnswersExpression x (Err answer) = answer ≡ Memory

-- this refusal is answered, or that memory ran out
abbrev pub AnswersRefusal : {X : Type 0} → ParseRefusal → Result X ParseRefusal → Type 0
AnswersRefusal refusal (Ok x) = ⊥
AnswersRefusal refusal (Err answer) = (answer ≡ refusal) ⊎ (answer ≡ Memory)
