use Rattle.std.proofs.Common.{◌≡◌, ◌+◌, ◌*◌, ap, ◌∙◌, refl, arith}
use Rattle.lt_term.specs.Size.{capped}
use Rattle.lt_term.specs.Tree.{branch, weighted}
use Rattle.lt_tree_size.specs.Tally.{nodes, vanishes, goes}
use Rattle.lt_tree_size.proofs.rules.with_part.Goals as goal

pub returns : goal.returns
returns c = λ w ls t bs f s.
    let n : nodes (weighted ls bs) + 1 * nodes t ≡ nodes (weighted ls (branch w t bs)) = omega arith in
    let v : vanishes t + 1 * vanishes (weighted ls bs) ≡ vanishes (weighted ls (branch w t bs)) = omega arith in
    let g : goes t + 1 * goes (weighted ls bs) ≡ goes (weighted ls (branch w t bs)) = omega arith in
    record {
      nodes_are = c.joined-nodes.ensures.is (nodes (weighted ls bs)) 1 (nodes t) s.nodes_are refl f.nodes_are ∙ ap capped n;
      vanishes_are = c.joined-vanishes.ensures.is (vanishes t) 1 (vanishes (weighted ls bs)) f.vanishes_are refl s.vanishes_are ∙ ap capped v;
      goes_are = c.joined-goes.ensures.is (goes t) 1 (goes (weighted ls bs)) f.goes_are refl s.goes_are ∙ ap capped g;
    }
