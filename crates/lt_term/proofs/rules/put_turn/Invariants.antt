use Rattle.std.proofs.Common.{◌≡◌, ◌++◌}
use Rattle.std.specs.List.{flat_map}
use Rattle.lt_term.specs.Offers.{in_turn}
use Rattle.lt_term.specs.Replaced.{replaced}
use Rattle.lt_term.specs.TreeView.{tree_nodes}
use Rattle.lt_term.specs.View.{process}
use Rattle.lt_term.proofs.rules.put_turn.Given as goal

-- what was put out so far is what the nodes so far become
abbrev pub invariant-loop-node : goal.invariant-loop-node
invariant-loop-node l = tree_nodes l.out.items ≡ tree_nodes l.fn.out.items ++ flat_map (replaced (in_turn (process l.again.value))) (tree_nodes l.yielded)
