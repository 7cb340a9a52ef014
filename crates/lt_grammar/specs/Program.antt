-- What it means that tokens spell a program or an expression, that they begin one, and where they stop doing so.
--
-- Both are trees that some relation tells: within so many levels of nesting these tokens, and no others, are this tree. What
-- is said of beginnings is said of any such relation.
use Rattle.std.specs.Prelude.{◌≡◌, ℕ, suc, List, [], ◌∷◌, ◌++◌}
use Rattle.lt_ast.specs.Syntax.{Exp, Declaration}
use Rattle.lt_grammar.specs.Lexemes.{Lexeme, Lexemes}
use Rattle.lt_grammar.specs.Grammar.{SpellsWithin, SpellsExpressionWithin}
use Rattle.lt_grammar.specs.Nesting.{most_levels}

-- These tokens, and no others, are this program, and no more levels of nesting are open at once than may be.
abbrev pub Spells : Lexemes → List Declaration → Type 0
Spells ts x = SpellsWithin most_levels ts x

-- They are this expression, and no more levels of nesting are open at once than may be.
abbrev pub SpellsExpression : Lexemes → Exp → Type 0
SpellsExpression ts e = SpellsExpressionWithin most_levels ts e

-- Some tree within so many levels begins with these tokens.
abbrev pub IsViableWithin : {X : Type 0} → (ℕ → Lexemes → X → Type 0) → ℕ → Lexemes → Type 0
IsViableWithin {X} spells most ts = (rest : Lexemes) × (x : X) × spells most (ts ++ rest) x

-- However many levels may be open: no tree begins with the tokens before a place and the next one,
-- and where no next one is, the tokens before are no tree.
abbrev pub NoneContinues : {X : Type 0} → (ℕ → Lexemes → X → Type 0) → Lexemes → Lexemes → Type 0
NoneContinues {X} spells before [] = (most : ℕ) (x : X) → spells most before x → ⊥
NoneContinues {X} spells before (u ∷ us) =
    (most : ℕ) → IsViableWithin spells most (before ++ u ∷ []) → ⊥

-- The first token that no tree has after the tokens before it is the first of the rest; with no rest, the tokens
-- end too early.
pub record IsUnexpected {X : Type 0} (spells : ℕ → Lexemes → X → Type 0) (ts rest : Lexemes)
    : Type 0 where
  pub before : Lexemes
  pub parts : ts ≡ before ++ rest
  pub viable : IsViableWithin spells most_levels before
  pub stuck : NoneContinues spells before rest

-- This token, with the rest after it, is the first that opens a level too many: trees with one level more have it
-- there, but none within the levels that may be open.
pub record IsTooDeep {X : Type 0} (spells : ℕ → Lexemes → X → Type 0) (ts : Lexemes)
    (token : Lexeme) (rest : Lexemes) : Type 0 where
  pub before : Lexemes
  pub parts : ts ≡ before ++ token ∷ rest
  pub viable : IsViableWithin spells most_levels before
  pub deep : IsViableWithin spells (suc most_levels) (before ++ token ∷ [])
  pub stuck : IsViableWithin spells most_levels (before ++ token ∷ []) → ⊥

-- Tokens spell at most one program.
abbrev pub SpellsAtMostOne : Type 0
SpellsAtMostOne = (most : ℕ) (ts : Lexemes) (x y : List Declaration) → SpellsWithin most ts x → SpellsWithin most ts y → x ≡ y
