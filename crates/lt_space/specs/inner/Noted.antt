-- What a load notes of the expressions that it evaluated.
use Rattle.std.specs.Prelude.{◌≡◌, ◌<◌, ◌⊎◌, ℕ, Bool, true, not, List, [], ◌∷◌, length, map, nat_lt, Option, None, Some, Ok}
use Rattle.std.specs.List.{list_all}
use Rattle.lt_formula.specs.Expression.{Expression, constant, variable, previous, unary, binary, choice}
use Rattle.lt_formula.specs.Kinds.{Kinds}
use Rattle.lt_formula.specs.Table.{spelled}
use Rattle.lt_formula.specs.Valuation.{Valuation}
use Rattle.lt_formula.specs.View.{table_expressions, table_kinds, table_len}
use Rattle.lt_formula.specs.declared.table.Table.{Table}
use Rattle.lt_space.specs.Evaluated.{ChosenOf, EvaluateSome, Evaluates, Where, is_divided, is_settled}
use Rattle.lt_space.specs.Formula.{Formula}
use Rattle.lt_space.specs.Meaning.{FormulaAnswer, is_known, settled_truth}
use Rattle.lt_space.specs.inner.Kept.{AreKept, Grows, number_at}
use Rattle.lt_space.specs.inner.Pushed.{no_formula}
use Rattle.lt_space.specs.inner.Work.{IsReady, StayWide, formula_due, formulas_in}
use Rattle.lt_space.specs.declared.work.Work.{Work}

-- an expression is noted
abbrev pub IsNoted : List (Option ℕ) → ℕ → Type 0
IsNoted numbers k = (n : ℕ) × (number_at numbers k ≡ Some n)

-- whether a number that is there is below another
abbrev pub is_below : ℕ → Option ℕ → Bool
is_below most None = true
is_below most (Some n) = nat_lt n most

-- whether all are
abbrev pub are_below : ℕ → List (Option ℕ) → Bool
are_below most numbers = list_all (is_below most) numbers

-- there is a formula, and no fault
abbrev pub IsDue : FormulaAnswer → Type 0
IsDue answer = (f : Formula) × (Ok f ≡ answer)

-- the same of each expression of a list
abbrev pub AreDue : Valuation → Table → List ℕ → Type 0
AreDue v t [] = Unit {0}
AreDue v t (k ∷ ks) = IsDue (formula_due v t k) × AreDue v t ks

-- the expression of a number
abbrev pub at : Table → ℕ → Expression
at t k = spelled (table_expressions t) k

-- what the evaluation of an expression evaluates beside itself
abbrev pub EvaluatesWithin : Valuation → Kinds → Expression → Expression → Type 0
EvaluatesWithin v kinds (constant k c) x = ⊥
EvaluatesWithin v kinds (variable r i) x = ⊥
EvaluatesWithin v kinds (previous r i) x = ⊥
EvaluatesWithin v kinds (unary op e) x = Where (not (is_known kinds (unary op e))) (Evaluates v kinds e x)
EvaluatesWithin v kinds (binary op d e) x = Where (is_divided kinds op d e) (Evaluates v kinds d x ⊎ Where (not (is_settled (settled_truth v kinds op d))) (Evaluates v kinds e x))
EvaluatesWithin v kinds (choice c d e) x = Where (not (is_known kinds (choice c d e))) (Evaluates v kinds c x ⊎ ChosenOf v kinds c (Evaluates v kinds d x) (Evaluates v kinds e x))

-- What is noted is right, and so is what is kept: with an expression all that its evaluation evaluates is noted.
pub record AreNoted (v : Valuation) (t : Table) (w : Work) (numbers : List (Option ℕ)) : Type 0 where
  pub ready : IsReady v t w
  pub len : length numbers ≡ table_len t
  pub kept : AreKept Formula no_formula (formulas_in w) numbers (formula_due v t)
  pub closed : (k j : ℕ) → IsNoted numbers k → k < table_len t → j < table_len t → Evaluates v (table_kinds t) (at t k) (at t j) → IsNoted numbers j

-- These expressions were noted, and no others.
pub record Notes (v : Valuation) (t : Table) (these : ℕ → Type 0) (a b : Work) (old new : List (Option ℕ)) : Type 0 where
  pub right : AreNoted v t b new
  pub grows : Grows Formula no_formula (formulas_in a) (formulas_in b)
  pub wide : StayWide a b
  pub stays : (k : ℕ) → IsNoted old k → IsNoted new k
  pub covers : (k : ℕ) → k < table_len t → these k → IsNoted new k
  pub only : (k : ℕ) → k < table_len t → IsNoted new k → IsNoted old k ⊎ these k

-- What is noted of a list of constraints is what they evaluate: of each expression the number of the gate that it is. Nothing
-- is noted where there is a fault.
pub record AreEvaluated (v : Valuation) (t : Table) (wanted : List ℕ) (formulas : List Formula) (numbers : List (Option ℕ)) : Type 0 where
  pub kept : AreKept Formula no_formula formulas numbers (formula_due v t)
  pub covers : (k : ℕ) → k < table_len t → EvaluateSome v (table_kinds t) (map (at t) wanted) (at t k) → IsNoted numbers k
  pub only : (k : ℕ) → k < table_len t → IsNoted numbers k → EvaluateSome v (table_kinds t) (map (at t) wanted) (at t k)
