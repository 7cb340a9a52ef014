use Rattle.std.proofs.Common.{◌≤◌, ◌+◌, ◌*◌, ◌^◌, ◌+ℤ◌, IsTrue, List, ℤ, length, take, unsigned_abs}
use Rattle.lt_formula.specs.Box.{IsInBox}
use Rattle.lt_space.specs.Circuit.{are_terms}
use Rattle.lt_space.specs.Formula.{sum_at}
use Rattle.lt_propagation.specs.inner.Dividing.{IsSumBut, value_of}
use Rattle.lt_propagation.proofs.dividing.remainder_of.Given as goal

-- what is known so far and the sum of what is left are the whole sum, but for a multiple of the divisor
abbrev pub invariant-loop-term : goal.invariant-loop-term
invariant-loop-term l = record {
  is : (values : List ℤ) → IsInBox l.ranges values → IsSumBut l.divisor (sum_at l.terms (take l.count values) +ℤ l.constant) (value_of l.remainder l.but l.count values +ℤ sum_at l.left (take l.count values));
  coefficient : unsigned_abs l.remainder.coefficient + length l.left * 2 ^ 61 ≤ 2 ^ 70;
  rest : unsigned_abs l.remainder.rest + length l.left * 2 ^ 101 ≤ 2 ^ 109;
  exact : IsTrue (are_terms l.left);
}

abbrev pub decreases-loop-term : goal.decreases-loop-term
decreases-loop-term l = length l.left
