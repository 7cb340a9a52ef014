use Rattle.std.proofs.Common.{subst, sym}
use Rattle.lt_term.specs.SceneView.{numbers_of}
use Rattle.lt_term.specs.View.{process}
use Rattle.lt_instant.specs.inner.DrawContextView.{meaning_of}
use Rattle.lt_check.specs.inner.SearcherView.{IsSearcherOf}
use Rattle.lt_check.proofs.FollowingLooks.{few_nodes, nodes_of}
use Rattle.lt_check.proofs.following.look_at.Goals as goal

pub returns-clause-ready : goal.returns-clause-ready
returns-clause-ready c =
    let m = c.args.moment.now in
    let s = m.scenario.now in
    let tree = c.in_ok-tree in
    let nodes = tree.tree.nodes.items in
    record {
      searches = subst (λ t. IsSearcherOf t c.args.searcher) (sym c.context.ensures.scenario) c.requires.searcher;
      nodes =
          nodes_of s c.context.result c.args.term.now nodes c.context.ensures.scenario (tree.ensures.passes (numbers_of s) c.requires.passes) (tree.ensures.expressions (meaning_of s.table))
          (few_nodes m (process c.args.term.now) nodes tree.ensures.numbers c.requires.small);
    }
