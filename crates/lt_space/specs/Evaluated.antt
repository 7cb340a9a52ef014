-- Which Booleans the evaluation of a constraint evaluates, as they stand there. What is known is evaluated as a whole, but for
-- `and`: its parts are evaluated one by one, since they are conjuncts of their own.
use Rattle.std.specs.Prelude.{◌≡◌, Bool, true, false, not, ◌&&◌, ◌||◌, ◌⊎◌, List, [], ◌∷◌, Option, Some, Ok, Err}
use Rattle.std.specs.declared.result.Result.{Result}
use Rattle.lt_num.specs.Value.{is_true}
use Rattle.lt_num.specs.declared.fault.Arith.{Arith}
use Rattle.lt_num.specs.declared.value.Value.{Value}
use Rattle.lt_formula.specs.Expression.{Expression, constant, variable, previous, unary, binary, choice}
use Rattle.lt_formula.specs.Kinds.{Kinds}
use Rattle.lt_formula.specs.Valuation.{Valuation, value_under}
use Rattle.lt_formula.specs.declared.operator.BinaryOperator.{BinaryOperator}
use Rattle.lt_formula.specs.declared.operator.BinaryOperator.TheVariants as two
use Rattle.lt_space.specs.Meaning.{is_boolean, is_known, kind_of, settled_truth}

-- a fact where a test is passed, and else none
abbrev pub Where : Bool → Type 0 → Type 0
Where true P = P
Where false P = ⊥

-- the first fact where a test is passed, and else the second
abbrev pub Either : Bool → Type 0 → Type 0 → Type 0
Either true P Q = P
Either false P Q = Q

-- whether an operator is `and`
abbrev pub is_and : BinaryOperator → Bool
is_and two.And = true
is_and op = false

-- whether there is a truth that is settled
abbrev pub is_settled : Result (Option Bool) Arith → Bool
is_settled (Ok (Some b)) = true
is_settled answer = false

-- whether there is a value, and it is true
abbrev pub is_truth : Result Value Arith → Bool
is_truth (Ok value) = is_true value
is_truth (Err fault) = false

-- whether the parts of an operator are evaluated one by one
abbrev pub is_divided : Kinds → BinaryOperator → Expression → Expression → Bool
is_divided kinds op d e = is_boolean (kind_of kinds d) && (not (is_known kinds (binary op d e)) || is_and op)

-- of the parts of a choice with this condition, the chosen one where the condition is known, and else both
abbrev pub ChosenOf : Valuation → Kinds → Expression → Type 0 → Type 0 → Type 0
ChosenOf v kinds c P Q = Either (is_known kinds c) (Either (is_truth (value_under v kinds c)) P Q) (P ⊎ Q)

-- The evaluation of an expression evaluates another: itself, and what the evaluation of its parts does. The right part of an
-- operator is evaluated unless the left one settles it.
abbrev pub Evaluates : Valuation → Kinds → Expression → Expression → Type 0
Evaluates v kinds (constant k c) x = (constant k c ≡ x) ⊎ ⊥
Evaluates v kinds (variable r i) x = (variable r i ≡ x) ⊎ ⊥
Evaluates v kinds (previous r i) x = (previous r i ≡ x) ⊎ ⊥
Evaluates v kinds (unary op e) x = (unary op e ≡ x) ⊎ Where (not (is_known kinds (unary op e))) (Evaluates v kinds e x)
Evaluates v kinds (binary op d e) x =
    (binary op d e ≡ x) ⊎ Where (is_divided kinds op d e) (Evaluates v kinds d x ⊎ Where (not (is_settled (settled_truth v kinds op d))) (Evaluates v kinds e x))
Evaluates v kinds (choice c d e) x =
    (choice c d e ≡ x) ⊎ Where (not (is_known kinds (choice c d e))) (Evaluates v kinds c x ⊎ ChosenOf v kinds c (Evaluates v kinds d x) (Evaluates v kinds e x))

-- the evaluation of a list of constraints does
abbrev pub EvaluateSome : Valuation → Kinds → List Expression → Expression → Type 0
EvaluateSome v kinds [] x = ⊥
EvaluateSome v kinds (e ∷ es) x = Evaluates v kinds e x ⊎ EvaluateSome v kinds es x
