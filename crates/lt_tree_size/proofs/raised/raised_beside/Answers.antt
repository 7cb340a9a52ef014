use Rattle.std.proofs.Common.{◌≡◌, ◌+◌, ◌*◌, ap, sym, ◌∙◌, refl, arith}
use Rattle.lt_term.specs.Size.{capped}
use Rattle.lt_tree_size.specs.Tally.{vanishes, goes, raises}
use Rattle.lt_tree_size.proofs.Weighings.{par_row}
use Rattle.lt_tree_size.proofs.raised.raised_beside.Goals as goal

pub returns-clause-is : goal.returns-clause-is
returns-clause-is c = λ z u t f r s.
    let o : vanishes t + 1 * goes t ≡ vanishes t + goes t = omega arith in
    let leaves = c.joined-leaves.ensures.is (vanishes t) 1 (goes t) f.vanishes_are refl f.goes_are ∙ ap capped o in
    c.joined.ensures.is (raises z t) (vanishes t + goes t) (raises z u) r leaves s ∙ ap capped (sym ((par_row u t).raises_are z))
