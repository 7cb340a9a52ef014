use Rattle.std.proofs.Common.{ap, sym, ◌∙◌}
use Rattle.lt_term.proofs.Public.{process_any}
use Rattle.lt_term.specs.View.{choices, process}
use Rattle.lt_same_term.specs.Alike.{head_of}
use Rattle.lt_same_term.specs.Hash.{with_choices, with_head, with_term}
use Rattle.lt_same_term.proofs.hashing.+with_term.Goals as goal

pub with_term-returns-in-Any : goal.with_term-returns-in-Any
with_term-returns-in-Any t c =
    let is = ap process c.in-Any.is ∙ process_any c.in-Any.all in
    let h = c.args.hash in
    c.with_parts.ensures
    ∙ (λ i. with_choices (c.with_head-hash.ensures i) (choices (c.deref-in-Any.ensures.value i)))
    ∙ ap (λ k. with_choices (with_head h k) (choices c.in-Any.all.items)) (c.head_of.ensures ∙ ap head_of is)
    ∙ ap (λ p. with_term h p) (sym is)
