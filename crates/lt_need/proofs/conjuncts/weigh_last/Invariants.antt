use Rattle.std.proofs.Common.{◌≡◌, ◌-◌, ◌++◌, vec_capacity, vec_len}
use Rattle.lt_need.specs.inner.Conjuncts.{weighed_last}
use Rattle.lt_need.proofs.conjuncts.weigh_last.Given as goal

-- what was written and what is left are the whole
abbrev pub invariant-loop : goal.invariant-loop
invariant-loop l = record {
  whole : weighed_last l.last ≡ l.weights.items ++ weighed_last (l.last - l.counter);
  count : vec_len l.weights ≡ l.counter;
  capacity : vec_capacity l.weights ≡ vec_capacity l.fn.weights;
}
