use Rattle.std.proofs.Common.{◌≡◌, ◌+ℤ◌, List, ℤ, length, pos, take}
use Rattle.lt_bounds.specs.Ranges.{IsNarrower}
use Rattle.lt_formula.specs.Box.{IsInBox}
use Rattle.lt_space.specs.Formula.{sum_at}
use Rattle.lt_propagation.specs.Domains.{AreDomains}
use Rattle.lt_propagation.proofs.dividing.divide.Given as goal

-- each point at which the sum is 0 is left
abbrev pub invariant-loop-term : goal.invariant-loop-term
invariant-loop-term l = record {
  left : (values : List ℤ) → IsInBox l.fn.ranges values → (sum_at l.terms (take l.count values) +ℤ l.constant) ≡ pos 0 → IsInBox l.ranges values;
  narrower : IsNarrower l.fn.ranges l.ranges;
  domains : AreDomains l.ranges;
}

abbrev pub decreases-loop-term : goal.decreases-loop-term
decreases-loop-term l = length l.rest
