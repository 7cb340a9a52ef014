use Rattle.std.proofs.Common.{◌≡◌, map, take}
use Rattle.lt_legal.specs.NodeView.{node_view}
use Rattle.lt_term.specs.TreeView.{tree_node}
use Rattle.lt_check.specs.inner.SearcherView.{IsSearcherOf}
use Rattle.lt_check.specs.inner.SeenOf.{loose_of}
use Rattle.lt_check.proofs.seeing.see_loosely.Given as goal

-- the nodes so far
abbrev pub invariant-loop-node : goal.invariant-loop-node
invariant-loop-node l = record {
  items : map node_view l.found.items ≡ map (loose_of l.context) (map tree_node (take l.node-index l.nodes));
  searcher : IsSearcherOf l.context.scenario.now l.searcher;
}
