use Rattle.std.proofs.Common.{◌≡◌, ℕ, false, length, slice_index_or, take}
use Rattle.lt_formula.specs.Limits.{most_variables}
use Rattle.lt_space.specs.CircuitView.{circuit_formulas}
use Rattle.lt_need.specs.inner.Uses.{is_hard_among}
use Rattle.lt_need.proofs.hard.mark_hard.Given as goal

-- the variables of the gates so far are marked
abbrev pub invariant-loop-place : goal.invariant-loop-place
invariant-loop-place l = record {
  marks : (i : ℕ) → slice_index_or l.hard.items i false ≡ is_hard_among l.ranges (circuit_formulas l.circuit) l.shared.items (take l.place l.atoms) i;
  long : length l.hard.items ≡ most_variables;
}
