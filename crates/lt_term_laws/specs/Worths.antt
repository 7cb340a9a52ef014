-- What well typed expressions are worth.
use Rattle.std.specs.Prelude.{◌≡◌, Some, Ok, slice_get}
use Rattle.lt_num.specs.Value.{raw_of, value_of}
use Rattle.lt_num.specs.declared.kind.Kind.{Kind}
use Rattle.lt_num.specs.declared.value.Value.{Value}
use Rattle.lt_formula.specs.Expression.{Expression, constant, variable, previous, unary, binary, choice}
use Rattle.lt_formula.specs.Kinds.{Kinds, kinds_of_role}
use Rattle.lt_formula.specs.Valuation.{Valuation, current_value, previous_value, value_under}
use Rattle.lt_term.specs.WellTyped.{HasKind}

-- a value is one of a kind: a truth or a number
abbrev pub IsOfKind : Kind → Value → Type 0
IsOfKind k x = value_of k (raw_of x) ≡ x

-- Each variable that an expression names has a value of its kind, and where it names what one was, it was a value of its kind, if
-- it was one at all.
abbrev pub HasFittingVariables : Kinds → Valuation → Expression → Type 0
HasFittingVariables kinds v (constant k c) = Unit {0}
HasFittingVariables kinds v (variable r i) = (k : Kind) → slice_get (kinds_of_role kinds r) i ≡ Some k → IsOfKind k (current_value v r i)
HasFittingVariables kinds v (previous r i) = (k : Kind) (x : Value) → slice_get (kinds_of_role kinds r) i ≡ Some k → previous_value v r i ≡ Some x → IsOfKind k x
HasFittingVariables kinds v (unary op e) = HasFittingVariables kinds v e
HasFittingVariables kinds v (binary op d e) = HasFittingVariables kinds v d × HasFittingVariables kinds v e
HasFittingVariables kinds v (choice c d e) = HasFittingVariables kinds v c × HasFittingVariables kinds v d × HasFittingVariables kinds v e

-- Where a well typed expression is worth something, that is a value of its kind. Its parts are well typed too, so the same holds of
-- each of them that is worth something.
abbrev pub WorthsAreOfTheirKinds : Type 0
WorthsAreOfTheirKinds =
    (kinds : Kinds) (v : Valuation) (e : Expression) (k : Kind) (x : Value) →
    HasFittingVariables kinds v e → HasKind kinds e k → value_under v kinds e ≡ Ok x → IsOfKind k x
