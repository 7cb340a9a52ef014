use Rattle.std.proofs.Common.{ap, sym, ◌∙◌}
use Rattle.lt_term.proofs.Public.{process_any}
use Rattle.lt_term.specs.View.{choices, process}
use Rattle.lt_same_term.specs.Alike.{many_parts, parts_of}
use Rattle.lt_same_term.proofs.parts.parts_of.Goals as goal

pub returns-in-Any : goal.returns-in-Any
returns-in-Any c = ap (λ ps. many_parts (choices ps)) c.deref-in-Any.ensures.value ∙ ap parts_of (sym (ap process c.in-Any.is ∙ process_any c.in-Any.all))
