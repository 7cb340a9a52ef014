use Rattle.std.proofs.Common.{◌≡◌, ◌<◌, ℕ, length}
use Rattle.lt_bounds.specs.Ranges.{range_at}
use Rattle.lt_solver.specs.inner.Drawing.{place_of}
use Rattle.lt_solver.proofs.witnessing.write_first_places.Given as goal

-- so many low ends are written
abbrev pub invariant-loop-i : goal.invariant-loop-i
invariant-loop-i l = record {
  long : length l.lows ≡ length l.places;
  written : (k : ℕ) → k < l.i → place_of l.lows k ≡ (range_at l.places k).low;
}
