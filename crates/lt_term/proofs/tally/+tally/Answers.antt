use Rattle.std.proofs.Common.{ap, sym, ◌∙◌}
use Rattle.lt_term.specs.Process.{seq, loop, count, pri, par, catch, try}
use Rattle.lt_term.specs.Size.{weight_of}
use Rattle.lt_term.specs.View.{process}
use Rattle.lt_term.proofs.Tallies.{seq_tally, turn_tally, order_tally, either_tally, par_tally, catch_tally, any_tally}
use Rattle.lt_term.proofs.tally.+tally.Goals as goal

pub tally_of-returns-in_ok-first-in-Seq : goal.tally_of-returns-in_ok-first-in-Seq
tally_of-returns-in_ok-first-in-Seq t c =
    seq_tally c.followed.result (process c.args.term.now) (process c.deref.result.now) (process c.deref-in-Seq.result.now) c.in_ok-first-in-Seq.first c.in_ok-first-in-Seq.second
    (ap process c.in-Seq.is ∙ (λ i. seq (process (sym c.deref.ensures i)) (process (sym c.deref-in-Seq.ensures i))))
    c.in_ok-first-in-Seq.ensures.first c.in_ok-first-in-Seq.ensures.second c.followed.ensures

pub tally_of-returns-in_ok-body-in-Loop : goal.tally_of-returns-in_ok-body-in-Loop
tally_of-returns-in_ok-body-in-Loop t c =
    turn_tally (process c.args.term.now) (process c.deref-in-Loop.result.now) c.repeated.result c.in_ok-body-in-Loop.body
    (λ w. ap (weight_of w) (ap process c.in-Loop.is ∙ ap (λ u. loop (process u)) (sym c.deref-in-Loop.ensures))) c.in_ok-body-in-Loop.ensures c.repeated.ensures

pub tally_of-returns-in_ok-body-in-Count : goal.tally_of-returns-in_ok-body-in-Count
tally_of-returns-in_ok-body-in-Count t c =
    turn_tally (process c.args.term.now) (process c.deref-in-Count.result.now) c.repeated-in-Count.result c.in_ok-body-in-Count.body
    (λ w. ap (weight_of w) (ap process c.in-Count.is ∙ ap (λ u. count c.in-Count.counter c.in-Count.done (process u)) (sym c.deref-in-Count.ensures))) c.in_ok-body-in-Count.ensures c.repeated-in-Count.ensures

pub tally_of-returns-in_ok-below-in-Any : goal.tally_of-returns-in_ok-below-in-Any
tally_of-returns-in_ok-below-in-Any t c =
    any_tally (process c.args.term.now) c.in-Any.parts c.with_choice.result c.in_ok-below-in-Any.below (ap process c.in-Any.is) c.in_ok-below-in-Any.ensures c.with_choice.ensures

pub tally_of-returns-in-Pri : goal.tally_of-returns-in-Pri
tally_of-returns-in-Pri t c =
    order_tally c.tally_of_either.result (process c.args.term.now) (process c.deref-in-Pri.result.now) (process c.deref-in-Pri-2.result.now)
    (λ w. ap (weight_of w) (ap process c.in-Pri.is ∙ (λ i. pri (process (sym c.deref-in-Pri.ensures i)) (process (sym c.deref-in-Pri-2.ensures i)))))
    c.tally_of_either.ensures

pub tally_of-returns-in_ok-first-in-Par : goal.tally_of-returns-in_ok-first-in-Par
tally_of-returns-in_ok-first-in-Par t c =
    par_tally c.beside.result (process c.args.term.now) (process c.deref-in-Par.result.now) (process c.deref-in-Par-2.result.now) c.in_ok-first-in-Par.first c.in_ok-first-in-Par.second
    (ap process c.in-Par.is ∙ (λ i. par (process (sym c.deref-in-Par.ensures i)) (process (sym c.deref-in-Par-2.ensures i))))
    c.in_ok-first-in-Par.ensures.first c.in_ok-first-in-Par.ensures.second c.beside.ensures

pub tally_of-returns-in_ok-body-in-Catch : goal.tally_of-returns-in_ok-body-in-Catch
tally_of-returns-in_ok-body-in-Catch t c =
    catch_tally c.caught.result (process c.args.term.now) (process c.deref-in-Catch.result.now) (process c.deref-in-Catch-2.result.now) c.in-Catch.exception c.in_ok-body-in-Catch.body c.in_ok-body-in-Catch.handler
    (ap process c.in-Catch.is ∙ (λ i. catch c.in-Catch.exception (process (sym c.deref-in-Catch.ensures i)) (process (sym c.deref-in-Catch-2.ensures i))))
    c.in_ok-body-in-Catch.ensures.first c.in_ok-body-in-Catch.ensures.second c.caught.ensures

pub tally_of-returns-in-Try : goal.tally_of-returns-in-Try
tally_of-returns-in-Try t c =
    order_tally c.tally_of_either-in-Try.result (process c.args.term.now) (process c.deref-in-Try.result.now) (process c.deref-in-Try-2.result.now)
    (λ w. ap (weight_of w) (ap process c.in-Try.is ∙ (λ i. try (process (sym c.deref-in-Try.ensures i)) (process (sym c.deref-in-Try-2.ensures i)))))
    c.tally_of_either-in-Try.ensures

pub tally_of_either-returns : goal.tally_of_either-returns
tally_of_either-returns t c =
    either_tally (process c.args.first.now) (process c.args.second.now) c.with_choice.result c.in_ok-below.below c.in_ok-first.first c.in_ok-first.second
    c.in_ok-first.ensures.first c.in_ok-first.ensures.second c.in_ok-below.ensures c.with_choice.ensures
