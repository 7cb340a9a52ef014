use Rattle.std.proofs.Common.{◌≡◌, ◌≤◌, length, take, vec_capacity}
use Rattle.lt_instant.specs.Solved.{values_of}
use Rattle.lt_check.proofs.following.values_of.Given as goal

-- the values of the locals so far
abbrev pub invariant-loop-local : goal.invariant-loop-local
invariant-loop-local l = record {
  items : l.values.items ≡ values_of (take l.local-index l.lasts) l.locals;
  len : length l.values.items ≡ l.local-index;
  room : length l.lasts ≤ vec_capacity l.values;
}
