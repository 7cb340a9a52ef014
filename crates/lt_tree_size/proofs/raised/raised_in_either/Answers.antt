use Rattle.std.proofs.Common.{◌≡◌, ◌+◌, ◌*◌, ap, ◌∙◌, refl, arith}
use Rattle.lt_term.specs.Size.{capped}
use Rattle.lt_term.specs.Tree.{branch, ordered, weighted}
use Rattle.lt_tree_size.specs.Tally.{raises}
use Rattle.lt_tree_size.proofs.raised.raised_in_either.Goals as goal

pub returns-clause-two : goal.returns-clause-two
returns-clause-two c = λ z t u r s.
    let e : raises z t + 1 * raises z u ≡ raises z (ordered t u) = omega arith in
    c.joined.ensures.is (raises z t) 1 (raises z u) r refl s ∙ ap capped e

pub returns-clause-more : goal.returns-clause-more
returns-clause-more c = λ z w ls t bs r s.
    let e : raises z t + 1 * raises z (weighted ls bs) ≡ raises z (weighted ls (branch w t bs)) = omega arith in
    c.joined.ensures.is (raises z t) 1 (raises z (weighted ls bs)) r refl s ∙ ap capped e
