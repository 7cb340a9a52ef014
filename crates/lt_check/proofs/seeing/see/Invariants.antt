use Rattle.std.proofs.Common.{◌≡◌, map, take}
use Rattle.lt_legal.specs.NodeView.{node_view}
use Rattle.lt_term.specs.TreeView.{tree_node}
use Rattle.lt_instant.specs.inner.DrawContextView.{scene_of}
use Rattle.lt_check.specs.inner.SearcherView.{IsSearcherOf}
use Rattle.lt_check.specs.inner.SeenOf.{seen}
use Rattle.lt_check.specs.inner.SoughtView.{wanted}
use Rattle.lt_check.specs.inner.Wanted.{is_wanted}
use Rattle.lt_check.proofs.seeing.see.Given as goal

-- the nodes so far
abbrev pub invariant-loop-node : goal.invariant-loop-node
invariant-loop-node l = record {
  items : map node_view l.found.items ≡ map (seen l.context (is_wanted (wanted (scene_of l.context) l.sought))) (map tree_node (take l.node-index l.nodes));
  searcher : IsSearcherOf l.context.scenario.now l.searcher;
}
