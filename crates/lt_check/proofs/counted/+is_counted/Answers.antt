use Rattle.std.proofs.Common.{◌∙◌, ap, subst, sym}
use Rattle.lt_term.proofs.Public.{process_any}
use Rattle.lt_term.specs.Counted.{AreCounted, IsCounted}
use Rattle.lt_term.specs.View.{choices, process}
use Rattle.lt_check.proofs.counted.+is_counted.Goals as goal

pub is_counted-returns-in-Any : goal.is_counted-returns-in-Any
is_counted-returns-in-Any t c = λ h.
    subst (λ p. IsCounted p) (sym (ap process c.in-Any.is ∙ process_any c.in-Any.parts))
    (subst (λ ps. AreCounted (choices ps)) c.deref-in-Any.ensures.value (c.are_counted.ensures h))
