use Rattle.std.proofs.Common.{◌≡◌, ◌≤◌, ◌+◌, ◌*◌, ◌^◌, ◌+ℤ◌, length, unsigned_abs}
use Rattle.lt_space.specs.Formula.{sum_at}
use Rattle.lt_space.proofs.holding.sum_at.Given as goal

-- the sum so far and that of what is left are the whole sum
abbrev pub invariant-loop-term : goal.invariant-loop-term
invariant-loop-term l =
    record {
      whole : sum_at l.terms l.assignment ≡ l.sum +ℤ sum_at l.rest l.assignment;
      bound : unsigned_abs l.sum + length l.rest * 2 ^ 103 ≤ 2 ^ 110;
    }

abbrev pub decreases-loop-term : goal.decreases-loop-term
decreases-loop-term l = length l.rest
