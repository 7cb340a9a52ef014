-- What expressions mean in an instant: a known value, or a form or a formula over its outputs and locals; or the first
-- fault that the evaluation from left to right meets.
use Rattle.std.specs.Prelude.{ℕ, ◌^◌, Bool, true, false, List, [], ◌∷◌, fold, ℤ, pos, Option, None, Some, Ok, Err, if◌then◌else◌}
use Rattle.std.specs.declared.result.Result.{Result}
use Rattle.lt_num.specs.Answer.{bounded}
use Rattle.lt_linear.specs.Form.{constant_form, form_compared, form_difference, form_divided, form_scaled, form_sum, variable_form}
use Rattle.lt_num.specs.Value.{is_true, raw_of}
use Rattle.lt_num.specs.declared.fault.Arith.{Arith}
use Rattle.lt_linear.specs.declared.form.Form.{Form}
use Rattle.lt_num.specs.declared.kind.Kind.{Kind}
use Rattle.lt_num.specs.declared.kind.Kind.TheVariants as kind
use Rattle.lt_formula.specs.Expression.{Expression, constant, variable, previous, unary, binary, choice}
use Rattle.lt_formula.specs.Facts.{facts_of}
use Rattle.lt_space.specs.Formula.{Formula, atom, conjunction, disjunction, exclusive, negation, truth}
use Rattle.lt_space.specs.Formula as formula
use Rattle.lt_formula.specs.Kinds.{Kinds, kind_of_variable, number_of}
use Rattle.lt_formula.specs.Operators.{settled}
use Rattle.lt_formula.specs.Valuation.{Valuation, value_under}
use Rattle.lt_space.specs.declared.formula.Atom.TheVariants.{Compare, Flag}
use Rattle.lt_space.specs.declared.formula.Relation.{Relation}
use Rattle.lt_space.specs.declared.formula.Relation.TheVariants.{Below, Equal, NotAbove}
use Rattle.lt_formula.specs.declared.operator.BinaryOperator.{BinaryOperator}
use Rattle.lt_formula.specs.declared.operator.BinaryOperator.TheVariants as two

-- what comes of a part, or the fault in its place
abbrev pub after : {A B : Type 0} → Result A Arith → (A → Result B Arith) → Result B Arith
after (Ok a) f = f a
after (Err fault) f = Err fault

-- whether an expression is known: it names no output or local of the instant
abbrev pub is_known : Kinds → Expression → Bool
is_known kinds e = (facts_of kinds e).is_known

-- the kind of its values
abbrev pub kind_of : Kinds → Expression → Kind
kind_of kinds e = (facts_of kinds e).kind

-- how many decimals a number of a kind has, where a real one has so many: an int has none
abbrev pub decimals_of : Kind → ℕ → ℕ
decimals_of kind.Real decimals = decimals
decimals_of other decimals = 0

-- a form, or the fault that there is in its place
abbrev pub FormAnswer : Type 0
FormAnswer = Result Form Arith

-- the form of a known number
abbrev pub known_form : Valuation → Kinds → Expression → FormAnswer
known_form v kinds e = after (value_under v kinds e) (λ value. after (bounded (raw_of value)) (λ number. Ok (constant_form number.raw)))

-- the product of a form and a known number of a kind
abbrev pub form_times : Kind → ℕ → Form → ℤ → FormAnswer
form_times k decimals form by = form_scaled form by (decimals_of k decimals)

-- The form of an operator on two numbers, of which these are the forms. One factor of a product is known, and so is a
-- divisor; no other operator has a form unless both are.
abbrev pub binary_form : BinaryOperator → Valuation → Kinds → Expression → Expression → FormAnswer → FormAnswer → FormAnswer
binary_form two.Add v kinds d e a b = after a (λ f. after b (form_sum f))
binary_form two.Sub v kinds d e a b = after a (λ f. after b (form_difference f))
binary_form two.Mul v kinds d e a b =
    if is_known kinds d then after (value_under v kinds d) (λ by. after b (λ f. form_times (kind_of kinds d) v.decimals f (raw_of by)))
    else after a (λ f. after (value_under v kinds e) (λ by. form_times (kind_of kinds d) v.decimals f (raw_of by)))
binary_form two.Div v kinds d e a b = after a (λ f. after (value_under v kinds e) (λ by. form_divided f (raw_of by) v.decimals))
binary_form op v kinds d e a b = known_form v kinds (binary op d e)

-- the form of a number
abbrev pub form_of : Valuation → Kinds → Expression → FormAnswer
form_of v kinds (constant k c) = known_form v kinds (constant k c)
form_of v kinds (variable r i) =
    if is_known kinds (variable r i) then known_form v kinds (variable r i)
    else Ok (variable_form (number_of kinds r i) (pos (10 ^ decimals_of (kind_of_variable kinds r i) v.decimals)))
form_of v kinds (previous r i) = known_form v kinds (previous r i)
form_of v kinds (unary op e) =
    if is_known kinds e then known_form v kinds (unary op e) else after (form_of v kinds e) (form_difference (constant_form (pos 0)))
form_of v kinds (binary op d e) =
    if is_known kinds (binary op d e) then known_form v kinds (binary op d e)
    else binary_form op v kinds d e (form_of v kinds d) (form_of v kinds e)
form_of v kinds (choice c d e) =
    if is_known kinds (choice c d e) then known_form v kinds (choice c d e)
    else after (value_under v kinds c) (λ value. if is_true value then form_of v kinds d else form_of v kinds e)

-- what the coefficients of an atom are multiplied by, so that ints are on the scale of reals too
abbrev pub factor_of : Kind → ℕ → ℤ
factor_of kind.Real decimals = pos 1
factor_of other decimals = pos (10 ^ decimals)

-- the atom that the difference of two forms of a kind is, which is exact
abbrev pub compared : Kind → ℕ → Form → Form → Relation → Formula
compared k decimals a b relation = atom (Compare (form_compared (factor_of k decimals) a b) relation)

-- what an operator gives on two forms
abbrev pub comparison : BinaryOperator → Kind → ℕ → Form → Form → Formula
comparison two.Eq k decimals a b = compared k decimals a b Equal
comparison two.Ne k decimals a b = negation (compared k decimals a b Equal)
comparison two.Lt k decimals a b = compared k decimals a b Below
comparison two.Le k decimals a b = compared k decimals a b NotAbove
comparison two.Gt k decimals a b = compared k decimals b a Below
comparison two.Ge k decimals a b = compared k decimals b a NotAbove
comparison op k decimals a b = truth false

-- what an operator gives on two formulas; the last row is that of `=`
abbrev pub connected : BinaryOperator → Formula → Formula → Formula
connected two.And f h = conjunction f h
connected two.Or f h = disjunction f h
connected two.Implies f h = disjunction (negation f) h
connected two.Xor f h = exclusive f h
connected two.Ne f h = exclusive f h
connected op f h = negation (exclusive f h)

-- a formula, or the fault that there is in its place
abbrev pub FormulaAnswer : Type 0
FormulaAnswer = Result Formula Arith

-- the formula of a known Boolean: a truth as a whole
abbrev pub known_formula : Valuation → Kinds → Expression → FormulaAnswer
known_formula v kinds e = after (value_under v kinds e) (λ value. Ok (truth (is_true value)))

-- the truth that an operator has by its left part alone, where this is known and settles it
abbrev pub settled_truth : Valuation → Kinds → BinaryOperator → Expression → Result (Option Bool) Arith
settled_truth v kinds op d = if is_known kinds d then after (value_under v kinds d) (λ value. Ok (settled op value)) else Ok None

-- a truth that is settled, or else this formula
abbrev pub unless_settled : FormulaAnswer → Option Bool → FormulaAnswer
unless_settled answer (Some b) = Ok (truth b)
unless_settled answer None = answer

-- whether operators on values of a kind are connectives
abbrev pub is_boolean : Kind → Bool
is_boolean kind.Bool = true
is_boolean other = false

-- the formula of an operator on two parts, of which these are the formulas where they are Booleans
abbrev pub binary_formula : BinaryOperator → Valuation → Kinds → Expression → Expression → FormulaAnswer → FormulaAnswer → FormulaAnswer
binary_formula op v kinds d e a b =
    if is_boolean (kind_of kinds d) then after (settled_truth v kinds op d) (unless_settled (after a (λ f. after b (λ h. Ok (connected op f h)))))
    else after (form_of v kinds d) (λ f. after (form_of v kinds e) (λ h. Ok (comparison op (kind_of kinds d) v.decimals f h)))

-- the formula of a choice with this condition, of which these are the formulas of the parts
abbrev pub choice_formula : Valuation → Kinds → Expression → FormulaAnswer → FormulaAnswer → FormulaAnswer → FormulaAnswer
choice_formula v kinds c a b d =
    if is_known kinds c then after (value_under v kinds c) (λ value. if is_true value then b else d)
    else after a (λ f. after b (λ g. after d (λ h. Ok (formula.choice f g h))))

-- The formula of a Boolean. What is known is a truth, a connective that its known left part settles is one, and of a choice
-- whose condition is known only the chosen part is evaluated. Nothing else is absorbed.
abbrev pub formula_of : Valuation → Kinds → Expression → FormulaAnswer
formula_of v kinds (constant k c) = known_formula v kinds (constant k c)
formula_of v kinds (variable r i) =
    if is_known kinds (variable r i) then known_formula v kinds (variable r i) else Ok (atom (Flag (number_of kinds r i)))
formula_of v kinds (previous r i) = known_formula v kinds (previous r i)
formula_of v kinds (unary op e) =
    if is_known kinds e then known_formula v kinds (unary op e) else after (formula_of v kinds e) (λ f. Ok (negation f))
formula_of v kinds (binary op d e) =
    if is_known kinds (binary op d e) then known_formula v kinds (binary op d e)
    else binary_formula op v kinds d e (formula_of v kinds d) (formula_of v kinds e)
formula_of v kinds (choice c d e) =
    if is_known kinds (choice c d e) then known_formula v kinds (choice c d e)
    else choice_formula v kinds c (formula_of v kinds c) (formula_of v kinds d) (formula_of v kinds e)

-- the formulas of a list of constraints, in its order, or the first fault
abbrev pub formulas_of : Valuation → Kinds → List Expression → Result (List Formula) Arith
formulas_of v kinds [] = Ok []
formulas_of v kinds (e ∷ es) = after (formula_of v kinds e) (λ f. after (formulas_of v kinds es) (λ fs. Ok (f ∷ fs)))

-- formulas joined by `and`, grouped to the left; none are the truth true
abbrev pub joined : List Formula → Formula
joined [] = truth true
joined (f ∷ fs) = fold conjunction f fs

-- the formula of a list of constraints
abbrev pub formula_of_all : Valuation → Kinds → List Expression → FormulaAnswer
formula_of_all v kinds es = after (formulas_of v kinds es) (λ fs. Ok (joined fs))
