use Rattle.std.proofs.Common.{◌≡◌, ◌≤◌, false, List, ℤ, vec_capacity}
use Rattle.lt_bounds.specs.Ranges.{range_at}
use Rattle.lt_formula.specs.Solution.{comes_before}
use Rattle.lt_num.specs.Interval.{IsWithin}
use Rattle.lt_solver.specs.inner.Classified.{passes}
use Rattle.lt_solver.specs.inner.Drawing.{Passes, place_of}
use Rattle.lt_solver.proofs.parting.first_left.Given as goal

-- None that passes comes before the place at hand, which lies between that at the start and that to stop at.
abbrev pub invariant-loop : goal.invariant-loop
invariant-loop l = record {
  within : IsWithin (range_at l.current l.i) l.place;
  on : comes_before l.is_down l.place l.start ≡ false;
  order : comes_before l.is_down l.stop l.place ≡ false;
  none : (places : List ℤ) → Passes (passes l.space l.scales) l.current places → comes_before l.is_down (place_of places l.i) l.start ≡ false → comes_before l.is_down (place_of places l.i) l.place ≡ false;
  copy : vec_capacity l.fn.room.current ≤ vec_capacity l.room.current;
  kleenes : vec_capacity l.room.kleenes ≡ vec_capacity l.fn.room.kleenes;
}
