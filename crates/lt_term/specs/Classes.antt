-- Where an expression depends on what is drawn in the same instant and may not. It is controllable where it names an output or
-- a local of the instant, and known where it names none: what a variable was in the instant before is known.
use Rattle.std.specs.Prelude.{Bool, true, false, not, ◌&&◌, ◌||◌}
use Rattle.lt_num.specs.declared.kind.Kind.{Kind}
use Rattle.lt_num.specs.declared.kind.Kind.TheVariants as kind
use Rattle.lt_formula.specs.Expression.{Expression, binary, choice}
use Rattle.lt_formula.specs.Facts.{facts_of}
use Rattle.lt_formula.specs.Kinds.{Kinds}
use Rattle.lt_formula.specs.declared.operator.BinaryOperator.{BinaryOperator}
use Rattle.lt_formula.specs.declared.operator.BinaryOperator.TheVariants as two

-- an expression depends on an output or a local of the instant
abbrev pub is_controllable : Kinds → Expression → Bool
is_controllable kinds e = not (facts_of kinds e).is_known

-- the kind of its values
abbrev pub kind_in : Kinds → Expression → Kind
kind_in kinds e = (facts_of kinds e).kind

-- int or real
abbrev pub is_number : Kind → Bool
is_number kind.Bool = false
is_number kind.Int = true
is_number kind.Real = true

-- whether what an operator gives is linear in what is drawn, where the left part has this kind and the parts are controllable or
-- not: a product has a known part, a quotient of reals a known divisor, and a quotient or a rest of ints two known parts
abbrev pub is_linear : BinaryOperator → Kind → Bool → Bool → Bool
is_linear two.Mul k left right = not (left && right)
is_linear two.Div kind.Real left right = not right
is_linear two.Div k left right = not (left || right)
is_linear two.Mod k left right = not (left || right)
is_linear op k left right = true

-- whether the outermost node of an expression is linear in what is drawn
abbrev pub is_linear_node : Kinds → Expression → Bool
is_linear_node kinds (binary op d e) = is_linear op (kind_in kinds d) (is_controllable kinds d) (is_controllable kinds e)
is_linear_node kinds e = true

-- whether it isn't a choice between numbers by what is drawn
abbrev pub has_known_condition : Kinds → Expression → Bool
has_known_condition kinds (choice c d e) = not (is_number (kind_in kinds d) && is_controllable kinds c)
has_known_condition kinds e = true
