use Rattle.std.proofs.Common.{◌≡◌, ◌-◌, false, length}
use Rattle.lt_bounds.specs.Tightening.{least_sum, variables_taken}
use Rattle.lt_bounds.specs.Ranges.{IsNarrower}
use Rattle.lt_bounds.proofs.tightening.take_row.Given as goal

-- It is left to the variables that were not taken. The ranges are narrower than they were, and the same where none was
-- changed; the row's least value stays.
abbrev pub invariant-loop-i : goal.invariant-loop-i
invariant-loop-i l = record {
  left : variables_taken l.row 0 (length l.fn.ranges) l.fn.ranges ≡ variables_taken l.row l.i (length l.fn.ranges - l.i) l.ranges;
  least : l.least ≡ least_sum l.row l.ranges;
  narrower : IsNarrower l.fn.ranges l.ranges;
  same : l.changed ≡ false → l.ranges ≡ l.fn.ranges;
}
