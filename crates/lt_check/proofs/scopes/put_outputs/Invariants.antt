use Rattle.std.proofs.Common.{◌≡◌, true, length, replicate, vec_capacity}
use Rattle.lt_check.proofs.scopes.put_outputs.Given as goal

-- the marks so far
abbrev pub invariant-loop-output : goal.invariant-loop-output
invariant-loop-output l = record {
  items : l.marks.items ≡ replicate l._output true;
  len : length l.marks.items ≡ l._output;
  room : vec_capacity l.marks ≡ vec_capacity l.fn.marks;
}
