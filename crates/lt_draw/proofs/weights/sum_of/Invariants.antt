use Rattle.std.proofs.Common.{◌≡◌, ◌*◌, ◌^◌, ◌≤◌, sum, take}
use Rattle.lt_draw.proofs.weights.sum_of.Given as goal

-- the sum of the weights so far, each of which has at most 64 bits
abbrev pub invariant-loop-weight : goal.invariant-loop-weight
invariant-loop-weight l = record {
  same : l.total ≡ sum (take l.weight-index l.weights);
  few : l.total ≤ l.weight-index * 2 ^ 64;
}
