-- Which comparisons use which variables beside others.
use Rattle.std.specs.Prelude.{◌≡◌, ◌<◌, ℕ, Bool, true, false, not, ◌&&◌, ◌||◌, List, [], ◌∷◌, Option, None, Some, nat_eq, nat_le, slice_index_or}
use Rattle.std.specs.List.{list_any}
use Rattle.lt_formula.specs.Limits.{most_variables}
use Rattle.lt_linear.specs.Form.{Term}
use Rattle.lt_space.specs.Circuit.{formula_at}
use Rattle.lt_space.specs.Formula.{Formula}
use Rattle.lt_space.specs.declared.formula.Atom.{Atom}
use Rattle.lt_num.specs.declared.range.Range.{Range}
use Rattle.lt_need.specs.Need.{has_variable, is_difference, is_equation, several_terms}
use Rattle.lt_need.specs.inner.Counts.{is_among}
use Rattle.lt_need.specs.inner.Marks.{own_atoms}

-- the terms of the first of these atoms, if it compares several variables
abbrev pub several_in : List Atom → List Term
several_in [] = []
several_in (a ∷ more) = several_terms a

-- whether the first of these atoms is an equation
abbrev pub equation_in : List Atom → Bool
equation_in [] = false
equation_in (a ∷ more) = is_equation a

-- the terms of the atom of a number, if it compares several variables
abbrev pub several_at : List Formula → ℕ → List Term
several_at formulas n = several_in (own_atoms (formula_at formulas n))

-- whether two numbers have the same atom
abbrev pub same_at : List Formula → ℕ → ℕ → Bool
same_at formulas m n =
    is_among (own_atoms (formula_at formulas m)) (own_atoms (formula_at formulas n))

-- a test of a number and of a variable that its atom compares with others
abbrev pub UseTest : Type 0
UseTest = ℕ → ℕ → Bool

-- whether a number passes with one of these terms
abbrev pub passes_some : UseTest → ℕ → List Term → Bool
passes_some test n terms = list_any (λ t. test n t.0) terms

-- whether some of these numbers does with one of its own
abbrev pub is_used : List Formula → List ℕ → UseTest → Bool
is_used formulas ns test = list_any (λ n. passes_some test n (several_at formulas n)) ns

-- What is known of a variable by its owner, the first number that uses it: without one no number
-- does; and with one it is shared where some number uses it whose atom is another one.
abbrev pub IsOwned : List Formula → (UseTest → Bool) → ℕ → Option ℕ → Bool → Type 0
IsOwned formulas used v None shared = (shared ≡ false) × (used (λ n i. nat_eq i v) ≡ false)
IsOwned formulas used v (Some owner) shared =
    (used (λ n i. nat_eq i v && same_at formulas n owner) ≡ true)
    × (shared ≡ used (λ n i. nat_eq i v && not (same_at formulas n owner)))

-- what is found by a test is found by each that more uses pass
abbrev pub IsRising : (UseTest → Bool) → Type 0
IsRising used =
    (less more : UseTest) → ((n i : ℕ) → less n i ≡ true → more n i ≡ true)
    → used less ≡ true → used more ≡ true

-- Each variable has its owner and its mark, and no variable is used beyond those that there may be.
pub record AreOwned
    (formulas : List Formula) (used : UseTest → Bool) (owners : List (Option ℕ))
    (shared : List Bool) : Type 0 where
  pub each : (v : ℕ) → v < most_variables
      → IsOwned formulas used v (slice_index_or owners v None) (slice_index_or shared v false)
  pub few : used (λ n i. nat_le most_variables i) ≡ false
  pub rising : IsRising used

-- the owners are some of so many gates
abbrev pub AreOwners : ℕ → List (Option ℕ) → Type 0
AreOwners count owners =
    (v owner : ℕ) → slice_index_or owners v None ≡ Some owner → owner < count

-- whether one of these terms has a shared variable
abbrev pub has_shared : List Bool → List Term → Bool
has_shared shared terms = list_any (λ t. slice_index_or shared t.0 false) terms

-- whether an atom with these terms is hard
abbrev pub is_hard_with : List Range → List Bool → List Term → Bool → Bool
is_hard_with ranges shared terms equation =
    not (is_difference ranges terms) && (equation || has_shared shared terms)

-- whether the atom of a number is, by which variables are shared
abbrev pub is_hard_at : List Range → List Formula → List Bool → ℕ → Bool
is_hard_at ranges formulas shared n =
    is_hard_with ranges shared (several_at formulas n)
    (equation_in (own_atoms (formula_at formulas n)))

-- whether a variable is in a hard atom
abbrev pub is_hard_among : List Range → List Formula → List Bool → List ℕ → ℕ → Bool
is_hard_among ranges formulas shared ns i =
    list_any (λ n. is_hard_at ranges formulas shared n && has_variable (several_at formulas n) i) ns
