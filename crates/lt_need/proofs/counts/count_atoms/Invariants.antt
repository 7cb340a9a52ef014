use Rattle.std.proofs.Common.{◌≡◌, ◌≤◌, length, take, vec_capacity}
use Rattle.lt_space.specs.CircuitView.{circuit_formulas, circuit_len}
use Rattle.lt_need.specs.Need.{count_different}
use Rattle.lt_need.specs.inner.Counts.{AreGates, found_atoms}
use Rattle.lt_need.specs.inner.Marks.{HaveSame}
use Rattle.lt_need.proofs.counts.count_atoms.Given as goal

-- the different atoms so far
abbrev pub invariant-loop-place : goal.invariant-loop-place
invariant-loop-place l = record {
  atoms : HaveSame (found_atoms (circuit_formulas l.circuit) l.found.items) (found_atoms (circuit_formulas l.circuit) (take l.place l.atoms));
  different : count_different (found_atoms (circuit_formulas l.circuit) l.found.items) ≡ length l.found.items;
  gates : AreGates (circuit_len l.circuit) l.found.items;
  few : length l.found.items ≤ l.place;
  room : vec_capacity l.found ≡ vec_capacity l.fn.found;
}
