use Rattle.std.proofs.Common.{◌≡◌, length, set, ◌≤ℤ◌}
use Rattle.lt_solver.specs.inner.Dive.{test_of}
use Rattle.lt_solver.specs.inner.Fixing.{Keeps}
use Rattle.lt_solver.proofs.Order.{range_of}
use Rattle.lt_solver.proofs.diving.fix_within.Given as goal

-- what passes has a place from the least one that is left on
abbrev pub invariant-loop : goal.invariant-loop
invariant-loop l = record {
  stays : l.point ≡ l.fn.point;
  long : length l.ranges ≡ length l.spare;
  low : l.part.low ≤ℤ l.low;
  kept : Keeps (test_of l.decimals l.circuit l.root l.scales) (set l.fn.point l.i l.part) (set l.fn.point l.i (range_of l.low l.part.high));
}
