use Rattle.std.proofs.Common.{◌≡◌, ◌<◌, ◌-◌, ℕ, Bool, length, slice_index_or, vec_capacity}
use Rattle.std.specs.List.{list_any}
use Rattle.lt_space.specs.CircuitView.{circuit_formulas}
use Rattle.lt_space.specs.declared.formula.Atom.{Atom}
use Rattle.lt_need.specs.inner.Counts.{AreGates}
use Rattle.lt_need.specs.inner.Reached.{AreReached, IsSpread, has_atom}
use Rattle.lt_need.proofs.gathering.spread.Given as goal

-- what is reached has the atoms of the whole, and what was visited is spread
abbrev pub invariant-loop-place : goal.invariant-loop-place
invariant-loop-place l = record {
  known : AreReached l.marks.items l.reached.items;
  gates : AreGates (length l.faces) l.reached.items;
  whole : (test : Atom → Bool) → list_any (has_atom (circuit_formulas l.circuit) test) l.reached.items ≡ has_atom (circuit_formulas l.circuit) test l.from;
  spread : (k : ℕ) → k < l.place → IsSpread (circuit_formulas l.circuit) l.reached.items (slice_index_or l.reached.items k 0);
  len : length l.marks.items ≡ length l.fn.marks.items;
  room : vec_capacity l.reached ≡ vec_capacity l.fn.reached;
}

abbrev pub decreases-loop-place : goal.decreases-loop-place
decreases-loop-place l = length l.marks.items - l.place
