use Rattle.lt_check.proofs.Choices.{Pushed}
use Rattle.lt_check.proofs.choice.push_parts.Given as goal

-- the parts so far
abbrev pub invariant-loop-number : goal.invariant-loop-number
invariant-loop-number l = Pushed l.fn.unfolded l.choice l.fn.trees.items l.weights l.number l.unfolded l.trees.items
