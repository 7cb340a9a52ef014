use Rattle.std.proofs.Common.{◌≡◌, ◌+◌, ◌*◌, ap, sym, ◌∙◌, refl, arith}
use Rattle.lt_term.specs.Size.{capped}
use Rattle.lt_tree_size.specs.Tally.{vanishes, goes}
use Rattle.lt_tree_size.proofs.Weighings.{instant_row}
use Rattle.lt_tree_size.proofs.rules.alongside.Goals as goal

pub returns : goal.returns
returns c = λ cs ls n u s.
    let row = instant_row cs ls n u in
    let g : vanishes u + 1 * goes u ≡ vanishes u + goes u = omega arith in
    record {
      nodes_are = s.nodes_are ∙ ap capped (sym row.nodes_are);
      vanishes_are = ap capped (sym row.vanishes_are);
      goes_are = c.joined-goes.ensures.is (vanishes u) 1 (goes u) s.vanishes_are refl s.goes_are ∙ ap capped (g ∙ sym row.goes_are);
    }
