use Rattle.std.proofs.Common.{◌≡◌, ◌+◌, ◌-◌, ◌<◌, length, sum, drop}
use Rattle.lt_draw.specs.Pick.{picked, place_over}
use Rattle.lt_draw.proofs.weights.pick.Given as goal

-- the pick is left to the weights from this place on
abbrev pub invariant-loop-rest : goal.invariant-loop-rest
invariant-loop-rest l = record {
  rest : l.rest < sum (drop l.place l.weights);
  same : picked l.weights l.word ≡ l.place + place_over (drop l.place l.weights) l.rest;
}

abbrev pub decreases-loop-rest : goal.decreases-loop-rest
decreases-loop-rest l = length l.weights - l.place
