use Rattle.std.proofs.Common.{◌≡◌, ◌+◌, ◌*◌, ap, ◌∙◌, refl, arith}
use Rattle.lt_term.specs.Size.{capped}
use Rattle.lt_tree_size.specs.Tally.{nodes, vanishes, goes}
use Rattle.lt_tree_size.proofs.rules.either.Goals as goal

pub returns : goal.returns
returns c = λ t u f s.
    let a : nodes t + 1 * nodes u ≡ nodes t + nodes u = omega arith in
    let b : 1 + 1 * (nodes t + nodes u) ≡ 1 + (nodes t + nodes u) = omega arith in
    let v : vanishes t + 1 * vanishes u ≡ 0 + (vanishes t + vanishes u) = omega arith in
    let g : goes t + 1 * goes u ≡ 0 + (goes t + goes u) = omega arith in
    let below = c.joined-below.ensures.is (nodes t) 1 (nodes u) f.nodes_are refl s.nodes_are ∙ ap capped a in
    record {
      nodes_are = c.joined-nodes.ensures.is 1 1 (nodes t + nodes u) refl refl below ∙ ap capped b;
      vanishes_are = c.joined-vanishes.ensures.is (vanishes t) 1 (vanishes u) f.vanishes_are refl s.vanishes_are ∙ ap capped v;
      goes_are = c.joined-goes.ensures.is (goes t) 1 (goes u) f.goes_are refl s.goes_are ∙ ap capped g;
    }
