use Rattle.std.proofs.Common.{◌≡◌, ◌++◌}
use Rattle.std.specs.List.{flat_map}
use Rattle.lt_term.specs.Offers.{in_exist}
use Rattle.lt_term.specs.Replaced.{node_with_local, replaced}
use Rattle.lt_term.specs.TreeView.{tree_nodes}
use Rattle.lt_term.proofs.rules.put_exist.Given as goal

-- what was put out so far is what the nodes so far become
abbrev pub invariant-loop-node : goal.invariant-loop-node
invariant-loop-node l = tree_nodes l.out.items ≡ tree_nodes l.fn.out.items ++ flat_map (λ n. replaced (in_exist l.start l.local l.last) (node_with_local (l.local, l.last) n)) (tree_nodes l.yielded)
