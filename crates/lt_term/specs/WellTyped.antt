-- When an expression of a scenario is well typed, and of which kind it is: a line for each construct.
use Rattle.std.specs.Prelude.{◌≡◌, Bool, true, false, not, IsTrue, slice_get}
use Rattle.std.specs.declared.option.Option.TheVariants.{Some}
use Rattle.lt_num.specs.Value.{raw_of, value_of}
use Rattle.lt_num.specs.declared.kind.Kind.{Kind}
use Rattle.lt_num.specs.declared.kind.Kind.TheVariants as kind
use Rattle.lt_formula.specs.Expression.{Expression, constant, variable, previous, unary, binary, choice}
use Rattle.lt_formula.specs.Facts.{unary_kind, binary_kind}
use Rattle.lt_formula.specs.Kinds.{Kinds, kinds_of_role}
use Rattle.lt_formula.specs.declared.operator.UnaryOperator.{UnaryOperator}
use Rattle.lt_formula.specs.declared.operator.UnaryOperator.TheVariants as one
use Rattle.lt_formula.specs.declared.operator.BinaryOperator.{BinaryOperator}
use Rattle.lt_formula.specs.declared.operator.BinaryOperator.TheVariants as two

-- whether a kind is that of truths; the others are kinds of numbers
abbrev pub is_truth : Kind → Bool
is_truth kind.Bool = true
is_truth kind.Int = false
is_truth kind.Real = false

-- whether a kind is that of whole numbers
abbrev pub is_whole : Kind → Bool
is_whole kind.Bool = false
is_whole kind.Int = true
is_whole kind.Real = false

-- the kinds that the part of an operator may have
abbrev pub unary_takes : UnaryOperator → Kind → Bool
unary_takes one.Not k = is_truth k
unary_takes one.Neg k = not (is_truth k)

-- the kinds that the two parts of an operator may have, both the same one
abbrev pub binary_takes : BinaryOperator → Kind → Bool
binary_takes two.And k = is_truth k
binary_takes two.Or k = is_truth k
binary_takes two.Xor k = is_truth k
binary_takes two.Implies k = is_truth k
binary_takes two.Eq k = true
binary_takes two.Ne k = true
binary_takes two.Lt k = not (is_truth k)
binary_takes two.Le k = not (is_truth k)
binary_takes two.Gt k = not (is_truth k)
binary_takes two.Ge k = not (is_truth k)
binary_takes two.Add k = not (is_truth k)
binary_takes two.Sub k = not (is_truth k)
binary_takes two.Mul k = not (is_truth k)
binary_takes two.Div k = not (is_truth k)
binary_takes two.Mod k = is_whole k

-- An expression is well typed, and its values have this kind: constants are values of it, variables stand in their tables with
-- it, and operators have parts of the kinds that they take.
abbrev pub HasKind : Kinds → Expression → Kind → Type 0
HasKind kinds (constant k v) wanted = (wanted ≡ k) × (value_of k (raw_of v) ≡ v)
HasKind kinds (variable r i) wanted = slice_get (kinds_of_role kinds r) i ≡ Some wanted
HasKind kinds (previous r i) wanted = slice_get (kinds_of_role kinds r) i ≡ Some wanted
HasKind kinds (unary op e) wanted = (k : Kind) × HasKind kinds e k × IsTrue (unary_takes op k) × (wanted ≡ unary_kind op k)
HasKind kinds (binary op d e) wanted = (k : Kind) × HasKind kinds d k × HasKind kinds e k × IsTrue (binary_takes op k) × (wanted ≡ binary_kind op k)
HasKind kinds (choice c d e) wanted = HasKind kinds c kind.Bool × HasKind kinds d wanted × HasKind kinds e wanted
