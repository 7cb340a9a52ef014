use Rattle.std.proofs.Common.{ap, sym, ◌∙◌}
use Rattle.lt_term.specs.Size.{capped}
use Rattle.lt_tree_size.specs.Tally.{nodes, vanishes, goes, raises}
use Rattle.lt_tree_size.proofs.Weighings.{catch_row, nodes_positive}
use Rattle.lt_tree_size.proofs.rules.caught.Goals as goal

pub returns : goal.returns
returns c = λ z h u t f r s.
    let row = catch_row z h u t in
    record {
      nodes_are = c.grown-nodes.ensures.is (nodes t) (raises z t) (nodes u) (nodes_positive t) (nodes_positive u) f.nodes_are r s.nodes_are ∙ ap capped (sym row.nodes_are);
      vanishes_are = c.joined-vanishes.ensures.is (vanishes t) (raises z t) (vanishes u) f.vanishes_are r s.vanishes_are ∙ ap capped (sym row.vanishes_are);
      goes_are = c.joined-goes.ensures.is (goes t) (raises z t) (goes u) f.goes_are r s.goes_are ∙ ap capped (sym row.goes_are);
    }
