use Rattle.std.proofs.Common.{◌≡◌, ◌+◌, ◌*◌, ap, sym, ◌∙◌, refl, arith}
use Rattle.lt_term.specs.Size.{capped}
use Rattle.lt_tree_size.specs.Tally.{nodes, vanishes, goes}
use Rattle.lt_tree_size.proofs.Weighings.{nodes_positive, seq_row}
use Rattle.lt_tree_size.proofs.rules.followed.Goals as goal

pub returns : goal.returns
returns c = λ b u t f s.
    let row = seq_row b u t in
    let z : 0 + vanishes t * vanishes u ≡ vanishes t * vanishes u = omega arith in
    record {
      nodes_are = c.grown-nodes.ensures.is (nodes t) (vanishes t) (nodes u) (nodes_positive t) (nodes_positive u) f.nodes_are f.vanishes_are s.nodes_are ∙ ap capped (sym row.nodes_are);
      vanishes_are = c.joined-vanishes.ensures.is 0 (vanishes t) (vanishes u) refl f.vanishes_are s.vanishes_are ∙ ap capped (z ∙ sym row.vanishes_are);
      goes_are = c.joined-goes.ensures.is (goes t) (vanishes t) (goes u) f.goes_are f.vanishes_are s.goes_are ∙ ap capped (sym row.goes_are);
    }
