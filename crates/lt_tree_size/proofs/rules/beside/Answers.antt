use Rattle.std.proofs.Common.{◌≡◌, ◌+◌, ◌*◌, ap, sym, ◌∙◌, refl, arith}
use Rattle.lt_term.specs.Size.{capped}
use Rattle.lt_tree_size.specs.Tally.{nodes, vanishes, goes}
use Rattle.lt_tree_size.proofs.Weighings.{nodes_positive, par_row}
use Rattle.lt_tree_size.proofs.rules.beside.Goals as goal

pub returns : goal.returns
returns c = λ u t f s.
    let row = par_row u t in
    let z : 0 + vanishes t * vanishes u ≡ vanishes t * vanishes u = omega arith in
    let a : 0 + vanishes t * goes u ≡ vanishes t * goes u = omega arith in
    let o : vanishes t + 1 * goes t ≡ vanishes t + goes t = omega arith in
    let q : vanishes u + 1 * goes u ≡ vanishes u + goes u = omega arith in
    let leaves = c.joined-leaves.ensures.is (vanishes t) 1 (goes t) f.vanishes_are refl f.goes_are ∙ ap capped o in
    let alone = c.joined-alone.ensures.is 0 (vanishes t) (goes u) refl f.vanishes_are s.goes_are ∙ ap capped a in
    let both = c.joined-either.ensures.is (vanishes u) 1 (goes u) s.vanishes_are refl s.goes_are ∙ ap capped q in
    record {
      nodes_are = c.grown-nodes.ensures.is (nodes t) (vanishes t + goes t) (nodes u) (nodes_positive t) (nodes_positive u) f.nodes_are leaves s.nodes_are ∙ ap capped (sym row.nodes_are);
      vanishes_are = c.joined-vanishes.ensures.is 0 (vanishes t) (vanishes u) refl f.vanishes_are s.vanishes_are ∙ ap capped (z ∙ sym row.vanishes_are);
      goes_are = c.joined-goes.ensures.is (vanishes t * goes u) (goes t) (vanishes u + goes u) alone f.goes_are both ∙ ap capped (sym row.goes_are);
    }
