use Rattle.std.proofs.Common.{◌≡◌, ◌≤◌, ◌+◌, suc, length, min, take, vec_capacity}
use Rattle.lt_space.specs.CircuitView.{circuit_formulas}
use Rattle.lt_need.specs.inner.Conjuncts.{choices_at, most_choices, weighed}
use Rattle.lt_need.specs.inner.GatheringView.{HasRoom, KeepsRoom}
use Rattle.lt_need.proofs.conjuncts.choices_of.Given as goal

-- the sum and what is weighed are the whole
abbrev pub invariant-gates : goal.invariant-gates
invariant-gates l = record {
  within : l.number ≤ l.root;
  all : min (choices_at (circuit_formulas l.circuit) l.root) most_choices ≡ min (l.sum + weighed (choices_at (circuit_formulas l.circuit)) (take (suc l.number) l.weights.items)) most_choices;
  most : l.sum ≤ most_choices;
  len : length l.weights.items ≡ suc l.root;
  weights : vec_capacity l.weights ≡ vec_capacity l.fn.weights;
  kept : KeepsRoom l.fn.gathering l.gathering;
  room : HasRoom (length l.faces) l.gathering;
}

abbrev pub decreases-gates : goal.decreases-gates
decreases-gates l = l.number
