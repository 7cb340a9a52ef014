use Rattle.std.proofs.Common.{ap, sym, ◌∙◌}
use Rattle.lt_term.proofs.Views.{process_any}
use Rattle.lt_term.specs.Process.{any}
use Rattle.lt_term.specs.View.{process}
use Rattle.lt_term.proofs.term.+copy.Goals as goal

pub copy-returns-in_ok-copy_parts-in-Any : goal.copy-returns-in_ok-copy_parts-in-Any
copy-returns-in_ok-copy_parts-in-Any t c =
    process_any c.in_ok-copy_parts-in-Any.field-0 ∙ ap any c.in_ok-copy_parts-in-Any.ensures ∙ sym (process_any c.in-Any.parts) ∙ sym (ap process c.in-Any.is)
