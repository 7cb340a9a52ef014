use Rattle.std.proofs.Common.{◌≡◌, length, take, vec_capacity}
use Rattle.lt_check.proofs.moment.put.Given as goal

-- the values so far
abbrev pub invariant-loop-value : goal.invariant-loop-value
invariant-loop-value l = record {
  items : l.values.items ≡ take l.value-index l.from;
  len : length l.values.items ≡ l.value-index;
  room : vec_capacity l.values ≡ vec_capacity l.fn.values;
}
