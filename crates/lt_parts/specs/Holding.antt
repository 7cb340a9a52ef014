-- How loaded constraints and comparisons hold of raw values.
use Rattle.std.specs.Prelude.{◌≡◌, ℕ, ◌^◌, Bool, false, List, ℤ, pos, ◌-ℤ◌, Ok, Err, slice_index_or}
use Rattle.std.specs.List.{list_all}
use Rattle.lt_num.specs.declared.kind.Kind.TheVariants as kind
use Rattle.lt_formula.specs.Expression.{Expression}
use Rattle.lt_formula.specs.Kinds.{Kinds}
use Rattle.lt_formula.specs.Valuation.{Valuation}
use Rattle.lt_linear.specs.Form.{form_compared}
use Rattle.lt_linear.specs.FormValue.{form_at}
use Rattle.lt_linear.specs.declared.form.Form.{Form}
use Rattle.lt_space.specs.Formula.{Formula, atom_holds, holds, stands}
use Rattle.lt_space.specs.Meaning.{FormulaAnswer, factor_of, formula_of, formula_of_all}
use Rattle.lt_space.specs.declared.formula.Atom.TheVariants.{Compare}
use Rattle.lt_space.specs.declared.formula.Relation.{Relation}

-- whether there is a formula, and it holds
abbrev pub answer_holds : ℕ → List ℤ → FormulaAnswer → Bool
answer_holds decimals values (Ok f) = holds decimals values f
answer_holds decimals values (Err fault) = false

-- Where a list of constraints has no fault, its formula holds of values exactly where that of each constraint does.
abbrev pub LoadedHolds : Type 0
LoadedHolds = (v : Valuation) (kinds : Kinds) (es : List Expression) (f : Formula) (decimals : ℕ) (values : List ℤ) → Ok f ≡ formula_of_all v kinds es
    → holds decimals values f ≡ list_all (λ e. answer_holds decimals values (formula_of v kinds e)) es

-- the value of a variable; one that has none has 0
abbrev pub value_at : List ℤ → ℕ → ℤ
value_at values i = slice_index_or values i (pos 0)

-- A comparison of two reals holds of values exactly where the difference of the two forms stands to 0 as it says; the forms are
-- worked out on twice as many decimals, and exactly.
abbrev pub RealsHoldExactly : Type 0
RealsHoldExactly = (decimals : ℕ) (values : List ℤ) (a b : Form) (relation : Relation)
    → atom_holds decimals values (Compare (form_compared (factor_of kind.Real decimals) a b) relation)
    ≡ stands relation (form_at (pos (10 ^ decimals)) (value_at values) a -ℤ form_at (pos (10 ^ decimals)) (value_at values) b)

-- A comparison of two ints does so, where the forms are worked out as they are.
abbrev pub IntsHoldExactly : Type 0
IntsHoldExactly = (decimals : ℕ) (values : List ℤ) (a b : Form) (relation : Relation)
    → atom_holds decimals values (Compare (form_compared (factor_of kind.Int decimals) a b) relation)
    ≡ stands relation (form_at (pos 1) (value_at values) a -ℤ form_at (pos 1) (value_at values) b)
