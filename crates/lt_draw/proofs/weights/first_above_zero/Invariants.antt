use Rattle.std.proofs.Common.{◌≡◌, ◌-◌, length, sum, drop}
use Rattle.lt_draw.proofs.weights.first_above_zero.Given as goal

-- the weights so far are 0
abbrev pub invariant-loop-place : goal.invariant-loop-place
invariant-loop-place l = sum (drop l.place l.weights) ≡ sum l.weights

abbrev pub decreases-loop-place : goal.decreases-loop-place
decreases-loop-place l = length l.weights - l.place
