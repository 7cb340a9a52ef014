use Rattle.std.proofs.Common.{◌≡◌, map, take, vec_capacity, vec_len}
use Rattle.lt_check.specs.inner.Point.{point_of}
use Rattle.lt_check.proofs.point.write_points.Given as goal

-- the ranges so far are those of the numbers so far
abbrev pub invariant-loop-value : goal.invariant-loop-value
invariant-loop-value l = record {
  items : l.points.items ≡ map point_of (take l.value-index l.values);
  count : vec_len l.points ≡ l.value-index;
  room : vec_capacity l.points ≡ vec_capacity l.fn.points;
}
