-- What the proofs of other crates may cite of this one: a text has one program or one refusal, and never both; and so with one
-- expression.
use Rattle.std.proofs.Common.{◌≡◌, ℕ, List}
use Rattle.lt_ast.specs.Syntax.{Exp, Declaration}
use Rattle.lt_grammar.specs.Text.{IsExpressionOf, IsProgramOf}
use Rattle.lt_parser.specs.Text.{IsExpressionRefusal, IsRefusal}
use Rattle.lt_parser.specs.declared.refusal.ParseRefusal.{ParseRefusal}
use Rattle.lt_parser.proofs.Texts as texts

-- at most one program
pub one_program : (text : List ℕ) (x y : List Declaration) → IsProgramOf text x → IsProgramOf text y → x ≡ y
one_program = texts.one_program

-- at most one refusal
pub one_refusal : (text : List ℕ) (refusal other : ParseRefusal) → IsRefusal text refusal → IsRefusal text other → refusal ≡ other
one_refusal = texts.one_refusal

-- not both
pub program_or_refusal : (text : List ℕ) (x : List Declaration) (refusal : ParseRefusal) → IsProgramOf text x → IsRefusal text refusal → ⊥
program_or_refusal = texts.program_or_refusal

-- at most one expression
pub one_expression : (text : List ℕ) (x y : Exp) → IsExpressionOf text x → IsExpressionOf text y → x ≡ y
one_expression = texts.one_expression

-- at most one refusal as an expression
pub one_expression_refusal : (text : List ℕ) (refusal other : ParseRefusal) → IsExpressionRefusal text refusal → IsExpressionRefusal text other → refusal ≡ other
one_expression_refusal = texts.one_expression_refusal

-- not both
pub expression_or_refusal : (text : List ℕ) (x : Exp) (refusal : ParseRefusal) → IsExpressionOf text x → IsExpressionRefusal text refusal → ⊥
expression_or_refusal = texts.expression_or_refusal
