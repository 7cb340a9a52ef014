use Rattle.std.proofs.Common.{◌≡◌, map, take}
use Rattle.lt_term.specs.Tree.{expression}
use Rattle.lt_term.specs.TreeView.{weight}
use Rattle.lt_term.proofs.offering.weights_of.Given as goal

-- the weights so far are those of the parts so far
abbrev pub invariant-loop-number : goal.invariant-loop-number
invariant-loop-number l = map weight l.weights.items ≡ map (λ p. expression p.0) (take l.number-index l.number-items)
