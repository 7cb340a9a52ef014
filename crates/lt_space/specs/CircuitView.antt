-- What circuits stand for.
use Rattle.std.specs.Prelude.{ℕ, ◌-◌, ◌^◌, List, [], length, min, vec_capacity}
use Rattle.lt_linear.specs.Form.{Term}
use Rattle.lt_space.specs.Circuit.{with_gates}
use Rattle.lt_space.specs.Formula.{Formula}
use Rattle.lt_space.specs.declared.circuit.Circuit.{Circuit}

-- the terms of its comparisons
abbrev pub circuit_terms : Circuit → List Term
circuit_terms c = c.terms.items

-- the formulas of its gates, by number
abbrev pub circuit_formulas : Circuit → List Formula
circuit_formulas c = with_gates c.terms.items [] c.gates.items

-- how many gates it has
abbrev pub circuit_len : Circuit → ℕ
circuit_len c = length c.gates.items

-- how many it has room for: those with a number
abbrev pub circuit_room : Circuit → ℕ
circuit_room c = min (vec_capacity c.gates) (2 ^ 32)

-- how many terms it has room for
abbrev pub circuit_terms_room : Circuit → ℕ
circuit_terms_room c = min (vec_capacity c.terms) (2 ^ 32 - 1)
