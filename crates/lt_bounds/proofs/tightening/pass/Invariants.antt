use Rattle.std.proofs.Common.{◌≡◌, false, length}
use Rattle.lt_bounds.specs.Rows.{rows_of, rows_in, AreWholeRows, ReachesAll}
use Rattle.lt_bounds.specs.Tightening.{rows_taken}
use Rattle.lt_bounds.specs.Ranges.{IsNarrower}
use Rattle.lt_bounds.proofs.tightening.pass.Given as goal

-- It is left to the rows that were not taken. The ranges are narrower than they were, and the same where none was changed.
abbrev pub invariant-loop-rest : goal.invariant-loop-rest
invariant-loop-rest l = record {
  left : rows_taken (rows_of l.rows) l.fn.ranges ≡ rows_taken (rows_in l.rows.width l.rest) l.ranges;
  whole : AreWholeRows l.rows.width l.rest l.ranges;
  reaches : ReachesAll (rows_in l.rows.width l.rest) l.ranges;
  narrower : IsNarrower l.fn.ranges l.ranges;
  same : l.changed ≡ false → l.ranges ≡ l.fn.ranges;
}

abbrev pub decreases-loop-rest : goal.decreases-loop-rest
decreases-loop-rest l = length l.rest
