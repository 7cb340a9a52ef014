use Rattle.std.proofs.Common.{ap, sym, ◌∙◌, arith}
use Rattle.lt_term.proofs.Advances.{advanced_each-unentered, parts_advance}
use Rattle.lt_term.proofs.Views.{process_any}
use Rattle.lt_term.specs.Advanced.{advanced, advanced_each}
use Rattle.lt_term.specs.Process.{any}
use Rattle.lt_term.specs.View.{choices, process}
use Rattle.lt_term.specs.inner.Renewed.{choices_of}
use Rattle.lt_term.proofs.advancing.+advance.Goals as goal

pub go_on_each-returns-then-not-is_entered_anywhere : goal.go_on_each-returns-then-not-is_entered_anywhere
go_on_each-returns-then-not-is_entered_anywhere t c =
    sym (advanced_each-unentered c.args.values.now (choices c.args.parts.now.items) (sym c.is_entered_anywhere.ensures ∙ c.if-not-is_entered_anywhere.true))

pub go_on_each-returns : goal.go_on_each-returns
go_on_each-returns t c =
    parts_advance c.args.values.now c.loop-weight.made.items c.deref-weight-items.result.now c.loop-weight.weight-index (omega (arith, c.loop-weight-test.false)) c.loop-weight.invariant
    ∙ ap (λ ps. advanced_each c.args.values.now (choices ps)) c.deref-weight-items.ensures.value

-- a choice of which no scope is entered
pub go_on-returns-in-None-4 : goal.go_on-returns-in-None-4
go_on-returns-in-None-4 t c =
    let whole = ap process c.in-Any.is ∙ process_any c.in-Any.parts in
    whole ∙ ap any (ap (λ v. choices (choices_of c.in-Any.parts.items v)) (sym c.in-None-4.is) ∙ c.in_ok-go_on_each-in-Any.ensures) ∙ sym (ap (advanced c.args.values.now) whole)

-- a choice with new parts
pub go_on-returns-in-Some-4 : goal.go_on-returns-in-Some-4
go_on-returns-in-Some-4 t c =
    let whole = ap process c.in-Any.is ∙ process_any c.in-Any.parts in
    process_any c.in-Some-4.parts ∙ ap any (ap (λ v. choices (choices_of c.in-Any.parts.items v)) (sym c.in-Some-4.is) ∙ c.in_ok-go_on_each-in-Any.ensures) ∙ sym (ap (advanced c.args.values.now) whole)
