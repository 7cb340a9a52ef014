use Rattle.lt_term.specs.Mapped.{node_passes}
use Rattle.lt_term.specs.SceneView.{numbers_of}
use Rattle.lt_term.specs.TreeView.{tree_node}
use Rattle.lt_instant.specs.inner.DrawContextView.{scene_of}
use Rattle.lt_check.specs.inner.SeenOf.{seen}
use Rattle.lt_check.specs.inner.SoughtView.{wanted}
use Rattle.lt_check.specs.inner.Wanted.{is_wanted}
use Rattle.lt_check.proofs.Sights.{all_at, seen_more}
use Rattle.lt_check.proofs.seeing.see.Goals as goal

pub see_node-requires-clause-passes : goal.see_node-requires-clause-passes
see_node-requires-clause-passes c =
    all_at (node_passes (numbers_of c.args.context.now.scenario.now)) tree_node c.args.nodes.now c.loop-node.node-index c.node-item.result c.node-item.result c.loop-node-test.true c.node-item.is c.requires.passes

pub loop-node-preserved : goal.loop-node-preserved
loop-node-preserved c =
    let m = c.args.context.now in
    record {
      items = seen_more (seen m (is_wanted (wanted (scene_of m) c.args.sought))) c.args.nodes.now c.loop-node.node-index c.node-item.result c.loop-node.found.items c.push.new.self.items c.in_ok-one.one c.loop-node-test.true c.node-item.is c.loop-node.invariant.items c.in_ok-one.ensures.seen c.in_ok-push.ensures.items;
      searcher = c.in_ok-one.ensures.searcher;
    }
