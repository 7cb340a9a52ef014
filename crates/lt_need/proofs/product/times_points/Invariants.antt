use Rattle.std.proofs.Common.{◌≡◌, ◌≤◌, ◌*◌, drop, min}
use Rattle.lt_need.specs.Need.{most_need}
use Rattle.lt_need.specs.inner.Points.{marked_points}
use Rattle.lt_need.proofs.product.times_points.Given as goal

-- the product so far, times the points of what is left, is the whole product
abbrev pub invariant-loop-variable : goal.invariant-loop-variable
invariant-loop-variable l = record {
  whole : min (l.need * marked_points l.marks 0 l.ranges) most_need ≡ min (l.product * marked_points l.marks l.variable (drop l.variable l.ranges)) most_need;
  most : l.product ≤ most_need;
}
