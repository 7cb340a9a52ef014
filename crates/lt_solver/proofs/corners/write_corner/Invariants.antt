use Rattle.std.proofs.Common.{◌≡◌, ◌<◌, ℕ, length}
use Rattle.lt_bounds.specs.Ranges.{range_at}
use Rattle.lt_solver.specs.inner.Drawing.{place_of}
use Rattle.lt_solver.proofs.FirstPlaces.{IsFirstPlace}
use Rattle.lt_solver.proofs.Scaled.{scale_at}
use Rattle.lt_solver.proofs.corners.write_corner.Given as goal

-- so many first places are written
abbrev pub invariant-loop-j : goal.invariant-loop-j
invariant-loop-j l = record {
  long : length l.places ≡ length l.current;
  first : (k : ℕ) → k < l.j → IsFirstPlace l.is_down (scale_at l.scales k) (range_at l.current k) (range_at l.values k) (place_of l.places k);
}
