-- Expressions of an expansion, each part with its place in the text. A name that was replaced has left no trace: the place is
-- that of what stands for it.
use Rattle.std.specs.Prelude.{ℕ, false, pos}
use Rattle.lt_ast.specs.declared.span.Span.{Span}
use Rattle.lt_num.specs.declared.kind.Kind.{Kind}
use Rattle.lt_num.specs.declared.kind.Kind.TheVariants as kind
use Rattle.lt_num.specs.declared.value.Value.{Value}
use Rattle.lt_num.specs.declared.value.Value.TheVariants as value
use Rattle.lt_formula.specs.Expression as e
use Rattle.lt_formula.specs.Expression.{Expression}
use Rattle.lt_formula.specs.declared.role.Role.{Role}
use Rattle.lt_formula.specs.declared.operator.UnaryOperator.{UnaryOperator}
use Rattle.lt_formula.specs.declared.operator.BinaryOperator.{BinaryOperator}

-- an expression and its place
pub data Placed : Type 0 where
  -- a value of a kind
  constant : Kind → Value → Span → Placed
  -- the variable of a role at a place among those of its role
  variable : Role → ℕ → Span → Placed
  -- what it was in the instant before
  previous : Role → ℕ → Span → Placed
  -- an operator on one part
  unary : UnaryOperator → Placed → Span → Placed
  -- an operator on two parts
  binary : BinaryOperator → Placed → Placed → Span → Placed
  -- the second part where the first is true, and else the third
  choice : Placed → Placed → Placed → Span → Placed

-- the place of an expression
abbrev pub place_of : Placed → Span
place_of (constant k v at) = at
place_of (variable r i at) = at
place_of (previous r i at) = at
place_of (unary op e at) = at
place_of (binary op d e at) = at
place_of (choice c d e at) = at

-- the expression without places
abbrev pub bare : Placed → Expression
bare (constant k v at) = e.constant k v
bare (variable r i at) = e.variable r i
bare (previous r i at) = e.previous r i
bare (unary op d at) = e.unary op (bare d)
bare (binary op c d at) = e.binary op (bare c) (bare d)
bare (choice b c d at) = e.choice (bare b) (bare c) (bare d)

-- the place of what isn't written
abbrev pub nowhere : Span
nowhere = record { start = 0; end = 0 }

-- the weight of an alternative that has none: 1
abbrev pub unwritten_weight : Placed
unwritten_weight = constant kind.Int (value.Num (pos 1)) nowhere

-- what stands for a name that means nothing, and for a trace in an expression's place: by the rules of types, which nothing here
-- rests on, no text that is well typed has either
abbrev pub meaningless : Placed
meaningless = constant kind.Bool (value.Bool false) nowhere
