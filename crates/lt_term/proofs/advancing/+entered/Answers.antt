use Rattle.std.proofs.Common.{ap, sym, ◌∙◌}
use Rattle.lt_term.proofs.Views.{process_any}
use Rattle.lt_term.specs.View.{process}
use Rattle.lt_term.specs.inner.Entered.{is_entered}
use Rattle.lt_term.proofs.advancing.+entered.Goals as goal

pub is_entered-returns-in-Any : goal.is_entered-returns-in-Any
is_entered-returns-in-Any t c = c.is_entered_anywhere.ensures ∙ sym (ap is_entered (ap process c.in-Any.is ∙ process_any c.in-Any.parts))
