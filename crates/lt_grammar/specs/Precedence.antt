-- How tightly expressions bind.
use Rattle.std.specs.Prelude.{◌≡◌, ℕ, suc, ◌≤◌, ◌∷◌, List, Option, Some, None}
use Rattle.lt_ast.specs.declared.sign.Sign.{Sign}
use Rattle.lt_ast.specs.declared.sign.Sign.TheVariants as t
use Rattle.lt_ast.specs.declared.span.Span.{Span}
use Rattle.lt_ast.specs.declared.expr.UnOp.{UnOp}
use Rattle.lt_ast.specs.declared.expr.UnOp.TheVariants as u
use Rattle.lt_ast.specs.declared.expr.BinOp.{BinOp}
use Rattle.lt_ast.specs.declared.expr.BinOp.TheVariants as b
use Rattle.lt_ast.specs.Syntax as s
use Rattle.lt_ast.specs.Syntax.{Exp}
use Rattle.lt_grammar.specs.Lexemes.{Lexemes, lexeme}

-- How tightly each binds, from the loosest: `if` 0, `=>` 1, `or` and `xor` 2, `and` 3, `not` 4, comparisons 5, `+` and `-` 6,
-- `*`, `/`, `div` and `mod` 7, the minus of an operand 8; what has no operator of its own binds more tightly than all.
abbrev pub rank : BinOp → ℕ
rank b.Implies = 1
rank b.Or = 2
rank b.Xor = 2
rank b.And = 3
rank b.Eq = 5
rank b.Ne = 5
rank b.Lt = 5
rank b.Le = 5
rank b.Gt = 5
rank b.Ge = 5
rank b.Add = 6
rank b.Sub = 6
rank b.Mul = 7
rank b.Div = 7
rank b.DivWord = 7
rank b.Mod = 7

-- how tightly an operator with one operand binds, and its operand at least
abbrev pub under : UnOp → ℕ
under u.Not = 4
under u.Neg = 8

-- An expression binds at least so tightly, so that it may stand where that is wanted.
abbrev pub Stands : ℕ → Exp → Type 0
Stands low (s.choose e f g at) = low ≤ 0
Stands low (s.binary op e f at) = low ≤ rank op
Stands low (s.unary op e at) = low ≤ under op
Stands low e = Unit {0}

-- How tightly a left side binds at least: as the operator, so that chains group to the left; but `=>` groups to the
-- right, and a comparison has no comparison on its left.
abbrev pub left_least : BinOp → ℕ
left_least b.Implies = 2
left_least b.Eq = 6
left_least b.Ne = 6
left_least b.Lt = 6
left_least b.Le = 6
left_least b.Gt = 6
left_least b.Ge = 6
left_least op = rank op

-- The right side of a comparison is a sum, or begins with `not`.
abbrev pub side_least : Exp → ℕ
side_least (s.unary u.Not e at) = 4
side_least e = 6

-- How tightly a right side binds at least: more than the operator; but that of `=>` may be another `=>`.
abbrev pub right_least : BinOp → Exp → ℕ
right_least b.Implies e = 1
right_least b.Eq e = side_least e
right_least b.Ne e = side_least e
right_least b.Lt e = side_least e
right_least b.Le e = side_least e
right_least b.Gt e = side_least e
right_least b.Ge e = side_least e
right_least op e = suc (rank op)

-- the operator that a sign is between two operands
abbrev pub operator : Sign → Option BinOp
operator t.Implies = Some b.Implies
operator t.Or = Some b.Or
operator t.Xor = Some b.Xor
operator t.And = Some b.And
operator t.Equal = Some b.Eq
operator t.Unequal = Some b.Ne
operator t.Less = Some b.Lt
operator t.LessEqual = Some b.Le
operator t.Greater = Some b.Gt
operator t.GreaterEqual = Some b.Ge
operator t.Plus = Some b.Add
operator t.Minus = Some b.Sub
operator t.Star = Some b.Mul
operator t.Slash = Some b.Div
operator t.Div = Some b.DivWord
operator t.Mod = Some b.Mod
operator sign = None

-- No operator follows: an expression reaches as far right as it can.
abbrev pub IsNoOperator : Lexemes → Type 0
IsNoOperator ts = (op : BinOp) (sign : Sign) (text : List ℕ) (at : Span) (rest : Lexemes) → ts ≡ lexeme sign text at ∷ rest → operator sign ≡ Some op → ⊥
