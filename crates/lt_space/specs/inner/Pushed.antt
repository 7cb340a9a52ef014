-- Gates that are put into circuits.
use Rattle.std.specs.Prelude.{◌≡◌, ◌<◌, ◌≤◌, ◌+◌, ℕ, true, length, slice_index_or}
use Rattle.lt_space.specs.CircuitView.{circuit_formulas, circuit_len, circuit_room, circuit_terms, circuit_terms_room}
use Rattle.lt_space.specs.Formula.{Formula, truth}
use Rattle.lt_space.specs.inner.Kept.{Grows}
use Rattle.lt_space.specs.declared.circuit.Circuit.{Circuit}

-- what stands where there is no formula
abbrev pub no_formula : Formula
no_formula = truth true

-- At most so many gates, and so many terms, were put behind those that were there. The last gate has this number and is this
-- formula.
pub record IsPushed (most_gates most_terms : ℕ) (old new : Circuit) (n : ℕ) (formula : Formula) : Type 0 where
  pub within : n < length (circuit_formulas new)
  pub is : slice_index_or (circuit_formulas new) n no_formula ≡ formula
  pub grows : Grows Formula no_formula (circuit_formulas old) (circuit_formulas new)
  pub len : circuit_len new ≤ circuit_len old + most_gates
  pub terms : length (circuit_terms new) ≤ length (circuit_terms old) + most_terms
  pub room : circuit_room new ≡ circuit_room old
  pub terms_room : circuit_terms_room old ≤ circuit_terms_room new

-- there is room for so many gates more
abbrev pub HasGates : ℕ → Circuit → Type 0
HasGates n c = circuit_len c + n ≤ circuit_room c

-- and for so many terms
abbrev pub HasTerms : ℕ → Circuit → Type 0
HasTerms n c = length (circuit_terms c) + n ≤ circuit_terms_room c
