use Rattle.std.proofs.Common.{◌≡◌, ◌≤◌, length, map, take, vec_capacity}
use Rattle.lt_check.specs.inner.Seen.{positive}
use Rattle.lt_check.proofs.seeing.positives.Given as goal

-- the marks so far
abbrev pub invariant-loop-weight : goal.invariant-loop-weight
invariant-loop-weight l = record {
  items : l.marks.items ≡ map positive (take l.weight-index l.weights);
  len : length l.marks.items ≡ l.weight-index;
  room : length l.weights ≤ vec_capacity l.marks;
}
