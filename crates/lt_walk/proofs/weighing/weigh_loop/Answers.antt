use Rattle.std.proofs.Common.{◌≡◌, suc, ◌+◌, ◌*◌, refl, ap, ◌∙◌, arith}
use Rattle.lt_term.specs.Offers.{in_turn, offers_of}
use Rattle.lt_term.specs.Process.{count, loop}
use Rattle.lt_term.specs.Size.{capped, tree_weight}
use Rattle.lt_term.specs.Tree.{with_leaves}
use Rattle.lt_marks.specs.View.{body}
use Rattle.lt_walk.proofs.Contexts.{context_turn, in_turn_weights, turn_weight}
use Rattle.lt_walk.proofs.weighing.weigh_loop.Goals as goal

pub returns-clause-loops : goal.returns-clause-loops
returns-clause-loops c = λ kinds w k.
    let b = body c.args.again.now.value in
    let turn = tree_weight (in_turn_weights w) (offers_of kinds b) in
    let e : tree_weight w (with_leaves (in_turn (loop b)) (offers_of kinds b)) ≡ turn = turn_weight w (loop b) (offers_of kinds b) in
    let o = k.other in
    let same : turn + 1 * w.vanish + 1 * 1 ≡ w.other + (tree_weight w (with_leaves (in_turn (loop b)) (offers_of kinds b)) + w.vanish) = omega (arith, e, o) in
    c.joined.ensures.is (turn + 1 * w.vanish) 1 1 (c.joined-parts.ensures.is turn 1 w.vanish (c.weigh-turn.ensures.is kinds (in_turn_weights w) (context_turn _ _ _ w k)) refl k.vanish) refl refl ∙ ap capped same

pub returns-clause-counts : goal.returns-clause-counts
returns-clause-counts c = λ i done kinds w k.
    let b = body c.args.again.now.value in
    let turn = tree_weight (in_turn_weights w) (offers_of kinds b) in
    let e : tree_weight w (with_leaves (in_turn (count i (suc done) b)) (offers_of kinds b)) ≡ turn = turn_weight w (count i (suc done) b) (offers_of kinds b) in
    let o = k.other in
    let same : turn + 1 * w.vanish + 1 * 1 ≡ w.other + (tree_weight w (with_leaves (in_turn (count i (suc done) b)) (offers_of kinds b)) + (w.vanish + 0)) = omega (arith, e, o) in
    c.joined.ensures.is (turn + 1 * w.vanish) 1 1 (c.joined-parts.ensures.is turn 1 w.vanish (c.weigh-turn.ensures.is kinds (in_turn_weights w) (context_turn _ _ _ w k)) refl k.vanish) refl refl ∙ ap capped same
