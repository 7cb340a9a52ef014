use Rattle.std.proofs.Common.{◌≡◌, ◌+◌, ◌≤◌, drop, unsigned_abs, ◌+ℤ◌}
use Rattle.lt_bounds.specs.Rows.{reach}
use Rattle.lt_bounds.specs.Tightening.{least_sum}
use Rattle.lt_bounds.proofs.SumLemmas.{terms_least, terms_reach}
use Rattle.lt_bounds.proofs.sums.least_sum.Given as goal

-- it is the sum so far, and what is left; and so are the sizes
abbrev pub invariant-loop-i : goal.invariant-loop-i
invariant-loop-i l = record {
  left : least_sum l.row l.ranges ≡ l.sum +ℤ terms_least (drop l.i l.row) (drop l.i l.ranges);
  within : unsigned_abs l.sum + terms_reach (drop l.i l.row) (drop l.i l.ranges) ≤ reach l.row l.ranges;
}
