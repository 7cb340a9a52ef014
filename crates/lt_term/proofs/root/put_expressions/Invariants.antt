use Rattle.std.proofs.Common.{◌≡◌, ◌++◌, ◌+◌, length, map, take}
use Rattle.lt_term.specs.Tree.{expression}
use Rattle.lt_term.specs.TreeView.{weight}
use Rattle.lt_term.proofs.root.put_expressions.Given as goal

-- the weights so far are those of the parts so far
abbrev pub invariant-loop-number : goal.invariant-loop-number
invariant-loop-number l = record {
  weights : map weight l.weights.items ≡ map weight l.fn.weights.items ++ map (λ p. expression p.0) (take l.number-index l.number-items);
  count : length l.weights.items ≡ length l.fn.weights.items + l.number-index;
}
