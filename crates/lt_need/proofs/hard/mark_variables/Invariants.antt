use Rattle.std.proofs.Common.{◌≡◌, ◌||◌, ℕ, false, length, slice_index_or, take}
use Rattle.lt_formula.specs.Limits.{most_variables}
use Rattle.lt_need.specs.Need.{has_variable}
use Rattle.lt_need.proofs.hard.mark_variables.Given as goal

-- the variables so far are marked
abbrev pub invariant-loop-place : goal.invariant-loop-place
invariant-loop-place l = record {
  marks : (i : ℕ) → slice_index_or l.hard.items i false ≡ (slice_index_or l.fn.hard.items i false || has_variable (take l.place l.terms) i);
  long : length l.hard.items ≡ most_variables;
}
