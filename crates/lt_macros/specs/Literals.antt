-- What literals and types of a text are in a scenario.
use Rattle.std.specs.Prelude.{ℕ, suc, nat_le, if◌then◌else◌, ℤ, pos, neg_ℤ, unsigned_abs}
use Rattle.std.specs.Int.{int_max, int_min}
use Rattle.std.specs.declared.option.Option.{Option}
use Rattle.std.specs.declared.option.Option.TheVariants.{None, Some}
use Rattle.lt_ast.specs.declared.group.TypeName.{TypeName}
use Rattle.lt_ast.specs.declared.group.TypeName.TheVariants as t
use Rattle.lt_ast.specs.declared.expr.UnOp.{UnOp}
use Rattle.lt_ast.specs.declared.expr.UnOp.TheVariants as u
use Rattle.lt_ast.specs.declared.expr.BinOp.{BinOp}
use Rattle.lt_ast.specs.declared.expr.BinOp.TheVariants as b
use Rattle.lt_ast.specs.Syntax.{Figure, WrittenRange}
use Rattle.lt_num.specs.Bounds.{most_raw}
use Rattle.lt_num.specs.declared.kind.Kind.{Kind}
use Rattle.lt_num.specs.declared.kind.Kind.TheVariants as kind
use Rattle.lt_num.specs.declared.range.Range.{Range}
use Rattle.lt_num.specs.declared.value.Value.TheVariants as value
use Rattle.lt_ast.specs.Literals.{figure_type}
use Rattle.lt_types.specs.Literal.{raw_of}
use Rattle.lt_formula.specs.declared.role.Role.{Role}
use Rattle.lt_formula.specs.declared.role.Role.TheVariants as role
use Rattle.lt_formula.specs.declared.operator.UnaryOperator.{UnaryOperator}
use Rattle.lt_formula.specs.declared.operator.UnaryOperator.TheVariants as one
use Rattle.lt_formula.specs.declared.operator.BinaryOperator.{BinaryOperator}
use Rattle.lt_formula.specs.declared.operator.BinaryOperator.TheVariants as two
use Rattle.lt_macros.specs.Placed.{Placed, constant}

-- the kind of a type's values; a trace has none
abbrev pub kind_of : TypeName → Kind
kind_of t.Bool = kind.Bool
kind_of t.Int = kind.Int
kind_of t.Real = kind.Real
kind_of t.Trace = kind.Bool

-- how many decimals the numbers of a kind have, where reals have this many
abbrev pub decimals_of : ℕ → Kind → ℕ
decimals_of decimals kind.Bool = 0
decimals_of decimals kind.Int = 0
decimals_of decimals kind.Real = decimals

-- the raw number of a literal of a kind
abbrev pub literal_raw : ℕ → Kind → Figure → ℤ
literal_raw decimals k f = raw_of (decimals_of decimals k) f

-- a raw number, where it isn't past the bound, and else the first one that is: its value is an overflow
abbrev pub capped : ℤ → ℤ
capped raw = if nat_le (unsigned_abs raw) most_raw then raw else pos (suc most_raw)

-- a raw number, or the nearest one within the bound
abbrev pub limited : ℤ → ℤ
limited raw = int_max (neg_ℤ (pos most_raw)) (int_min raw (pos most_raw))

-- the constant that a number stands for
abbrev pub number_at : ℕ → Figure → Placed
number_at decimals f = constant (kind_of (figure_type f)) (value.Num (capped (literal_raw decimals (kind_of (figure_type f)) f))) f.span

-- the raw numbers from one to another
abbrev pub from_to : ℤ → ℤ → Range
from_to low high = record { low = low; high = high; step = pos 1 }

-- the raw number of a step, of at least 1, where literals have so many decimals; 1 where none is written
abbrev pub step_raw : ℕ → Option Figure → ℤ
step_raw decimals None = pos 1
step_raw decimals (Some f) = int_max (limited (raw_of decimals f)) (pos 1)

-- The points of a written range, where literals have so many decimals. By the rules of types its ends are in order, its step is
-- at least 1, and all are within the bound, so that these are what is written.
abbrev pub written_points : ℕ → WrittenRange → Range
written_points decimals range = record {
  low = limited (raw_of decimals range.low);
  high = int_max (limited (raw_of decimals range.low)) (limited (raw_of decimals range.high));
  step = step_raw decimals range.step;
}

-- how large in size an output or a local may be that has no range
abbrev pub most_drawn_raw : ℕ
most_drawn_raw = 10000

-- how large in size a number may be that has no range
abbrev pub most_unranged : Role → ℕ
most_unranged role.Input = most_raw
most_unranged role.Output = most_drawn_raw
most_unranged role.Local = most_drawn_raw

-- the raw numbers of a variable's values
abbrev pub range_of : ℕ → Role → Kind → Option WrittenRange → Range
range_of decimals r kind.Bool range = from_to (pos 0) (pos 1)
range_of decimals r k None = from_to (neg_ℤ (pos (most_unranged r))) (pos (most_unranged r))
range_of decimals r k (Some range) = written_points (decimals_of decimals k) range

-- an operator with one operand
abbrev pub unary_operator : UnOp → UnaryOperator
unary_operator u.Not = one.Not
unary_operator u.Neg = one.Neg

-- an operator between its operands; the two quotients are one, since ints and reals are told apart by their kinds
abbrev pub binary_operator : BinOp → BinaryOperator
binary_operator b.And = two.And
binary_operator b.Or = two.Or
binary_operator b.Xor = two.Xor
binary_operator b.Implies = two.Implies
binary_operator b.Eq = two.Eq
binary_operator b.Ne = two.Ne
binary_operator b.Lt = two.Lt
binary_operator b.Le = two.Le
binary_operator b.Gt = two.Gt
binary_operator b.Ge = two.Ge
binary_operator b.Add = two.Add
binary_operator b.Sub = two.Sub
binary_operator b.Mul = two.Mul
binary_operator b.Div = two.Div
binary_operator b.DivWord = two.Div
binary_operator b.Mod = two.Mod
