use Rattle.std.proofs.Common.{◌≡◌, ◌≤◌, drop, length, map, vec_capacity}
use Rattle.lt_legal.specs.NodeView.{node_view}
use Rattle.lt_legal.specs.Nodes.{run}
use Rattle.lt_legal.proofs.filling.fill.Given as goal

-- the nodes from here on are told
abbrev pub invariant-loop-number : goal.invariant-loop-number
invariant-loop-number l = record {
  table : drop l.number l.found.items ≡ run (map node_view (drop l.number l.nodes));
  many : length l.found.items ≡ length l.nodes;
  within : l.number ≤ length l.nodes;
  room : vec_capacity l.fn.found ≤ vec_capacity l.found;
}

abbrev pub decreases-loop-number : goal.decreases-loop-number
decreases-loop-number l = l.number
