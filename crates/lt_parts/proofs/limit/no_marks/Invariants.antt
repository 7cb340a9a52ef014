use Rattle.std.proofs.Common.{◌≡◌, ◌≤◌, false, length, replicate, vec_capacity}
use Rattle.lt_parts.proofs.limit.no_marks.Given as goal

-- the marks so far
abbrev pub invariant-loop-made : goal.invariant-loop-made
invariant-loop-made l = record {
  items : l.marks.items ≡ replicate l._made false;
  len : length l.marks.items ≡ l._made;
  room : l.count ≤ vec_capacity l.marks;
}
