-- Lists of expressions in parentheses, and an expression up to the end of the tokens.
use Rattle.std.proofs.Common.{◌≡◌, ◌<◌, ◌∙◌, ℕ, suc, List, [], ◌∷◌, length, map, refl, ap, Err, arith}
use Rattle.lt_ast.specs.declared.expr.Expr.{Expr}
use Rattle.lt_ast.specs.declared.sign.Sign.TheVariants as t
use Rattle.lt_ast.specs.Syntax.{Exp}
use Rattle.lt_ast.specs.View.{exp}
use Rattle.lt_lexer.specs.declared.lexeme.Lexeme.{Lexeme as Token}
use Rattle.lt_grammar.specs.Lexemes.{Lexemes, lexeme, IsNotFirst}
use Rattle.lt_grammar.specs.Nesting.{most_levels}
use Rattle.lt_parser.specs.inner.Onto.{expressions_onto}
use Rattle.lt_parser.specs.inner.Reading.{Goal, a_sign, an_exp, expression_done, more_expressions, outcome, some_expressions, unexpected, whole_exp}
use Rattle.lt_parser.specs.inner.Tokens.{lexemes}

-- LISTS

-- Expressions end where no comma comes.
pub expressions_end : (d : ℕ) (k : List Exp → Goal) (ts : Lexemes) → IsNotFirst t.Comma ts → outcome most_levels (more_expressions d k) ts ≡ outcome most_levels (a_sign t.Close (λ p. k [])) ts
expressions_end d k [] h = refl
expressions_end d k (lexeme t.Comma w at ∷ us) h = absurd (h w at us refl)
expressions_end d k (lexeme sign w at ∷ us) h = refl

-- Where no parenthesis closes, a first one comes.
pub an_expression_first : (d : ℕ) (k : List Exp → Goal) (ts : Lexemes) → IsNotFirst t.Close ts
    → outcome most_levels (some_expressions d k) ts ≡ outcome most_levels (an_exp d 0 (λ e. more_expressions d (λ es. k (e ∷ es)))) ts
an_expression_first d k [] h = refl
an_expression_first d k (lexeme t.Close w at ∷ us) h = absurd (h w at us refl)
an_expression_first d k (lexeme sign w at ∷ us) h = refl

-- expressions, as the code has them
pub expressions_onto-none : (xs : List Expr) → expressions_onto xs [] ≡ map exp xs
expressions_onto-none [] = refl
expressions_onto-none (x ∷ xs) = ap (λ es. exp x ∷ es) (expressions_onto-none xs)

-- UP TO THE END

-- Reading finds this expression, and continues after it.
abbrev pub IsReadFirst : Lexemes → Exp → Lexemes → Type 0
IsReadFirst ts e rest = (k : Exp → Goal) → outcome most_levels (an_exp 0 0 k) ts ≡ outcome most_levels (k e) rest

-- there are as many tokens
length-lexemes : (ts : List Token) → length (lexemes ts) ≡ length ts
length-lexemes [] = refl
length-lexemes (u ∷ ts) = ap suc (length-lexemes ts)

-- A token after it is unexpected.
pub whole_unexpected : (ts : Lexemes) (rest : List Token) (e : Exp) → 0 < length rest → IsReadFirst ts e (lexemes rest) → outcome most_levels (whole_exp expression_done) ts ≡ Err (unexpected (length rest))
whole_unexpected ts [] e n h = absurd (omega (arith, n))
whole_unexpected ts (u ∷ rest) e n h = h expression_done ∙ ap (λ m. Err (unexpected (suc m))) (length-lexemes rest)
