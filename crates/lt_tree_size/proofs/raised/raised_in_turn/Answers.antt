use Rattle.std.proofs.Common.{ap, sym, ◌∙◌}
use Rattle.lt_term.specs.Size.{capped}
use Rattle.lt_tree_size.specs.Tally.{vanishes, raises}
use Rattle.lt_tree_size.proofs.Weighings.{seq_row}
use Rattle.lt_tree_size.proofs.raised.raised_in_turn.Goals as goal

pub returns-clause-is : goal.returns-clause-is
returns-clause-is c = λ z b u t f r s.
    c.joined.ensures.is (raises z t) (vanishes t) (raises z u) r f.vanishes_are s ∙ ap capped (sym ((seq_row b u t).raises_are z))
