use Rattle.std.proofs.Common.{◌≡◌, ◌-◌}
use Rattle.lt_bounds.specs.Rows.{rows_of}
use Rattle.lt_bounds.specs.Tightening.{passes}
use Rattle.lt_bounds.specs.Ranges.{IsNarrower}
use Rattle.lt_bounds.proofs.tightening.tighten.Given as goal

-- it is left to the passes that were not made
abbrev pub invariant-loop : goal.invariant-loop
invariant-loop l = record {
  left : passes 8 (rows_of l.rows) l.fn.ranges ≡ passes (8 - l.counter) (rows_of l.rows) l.ranges;
  narrower : IsNarrower l.fn.ranges l.ranges;
}
