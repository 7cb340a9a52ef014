-- Programs and expressions that texts spell.
use Rattle.std.specs.Prelude.{ℕ, List}
use Rattle.lt_ast.specs.Syntax.{Exp, Declaration}
use Rattle.lt_grammar.specs.Text.{IsExpressionOf, IsProgramOf}

-- some text spells these declarations
abbrev pub IsSpelled : List Declaration → Type 0
IsSpelled ds = (text : List ℕ) × IsProgramOf text ds

-- some text spells this expression
abbrev pub IsSpelledExpression : Exp → Type 0
IsSpelledExpression e = (text : List ℕ) × IsExpressionOf text e
