use Rattle.std.proofs.Common.{◌≡◌, ◌&&◌, true, ap, sym, ◌∙◌}
use Rattle.lt_term.proofs.Public.{process_any}
use Rattle.lt_term.specs.View.{choices, process}
use Rattle.lt_same_term.specs.Alike.{alike, choices_alike, head_eq, head_of, many_alike, parts_of}
use Rattle.lt_same_term.proofs.Rows.{all_passed, goes_on, none_left, weights_differ}
use Rattle.lt_same_term.proofs.comparing.+same.Goals as goal

pub same-returns-in-Any : goal.same-returns-in-Any
same-returns-in-Any t c =
    let y = process c.args.other.now in
    let is = ap process c.in-Any.is ∙ process_any c.in-Any.all in
    let heads : true ≡ head_eq (head_of (process c.args.one.now)) (head_of y) = c.if-not-same_head.ensures ∙ (λ i. head_eq (c.head_of.ensures i) (c.head_of-2.ensures i)) in
    c.same_each.ensures ∙ ap (λ ps. many_alike (λ cs. choices_alike (choices ps) cs) (parts_of y)) c.deref-in-Any.ensures.value
    ∙ ap (λ b. b && many_alike (λ cs. choices_alike (choices c.in-Any.all.items) cs) (parts_of y)) (heads ∙ ap (λ p. head_eq (head_of p) (head_of y)) is) ∙ ap (λ p. alike p y) (sym is)

pub same_parts-returns-in_default : goal.same_parts-returns-in_default
same_parts-returns-in_default t c =
    none_left c.args.all.now c.loop-weight.weight-index c.loop-weight-item.result c.loop-weight.rest.now c.loop-weight-test.true c.loop-weight-item.is c.in_default.ensures.cases ∙ sym c.loop-weight.invariant

pub same_parts-returns-then-weight-first : goal.same_parts-returns-then-weight-first
same_parts-returns-then-weight-first t c =
    weights_differ c.args.all.now c.loop-weight.weight-index c.loop-weight-item.result c.loop-weight.rest.now c.loop-weight-test.true c.loop-weight-item.is c.in-Some.first.now c.in-Some.more.now c.in-Some.ensures.cases.0 c.if-weight-first.true
    ∙ sym c.loop-weight.invariant

pub same_parts-loop-weight-preserved : goal.same_parts-loop-weight-preserved
same_parts-loop-weight-preserved t c =
    c.loop-weight.invariant
    ∙ goes_on c.args.all.now c.loop-weight.weight-index c.loop-weight-item.result c.loop-weight.rest.now c.loop-weight-test.true c.loop-weight-item.is c.in-Some.first.now c.in-Some.more.now c.in-Some.ensures.cases.0 c.if-weight-first.false c.if-not-same.ensures

pub same_parts-returns : goal.same_parts-returns
same_parts-returns t c = c.is_empty.ensures ∙ all_passed c.args.all.now c.loop-weight.weight-index c.loop-weight.rest.now c.loop-weight-test.false ∙ sym c.loop-weight.invariant
