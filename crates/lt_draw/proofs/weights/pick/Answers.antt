use Rattle.std.proofs.Common.{◌≡◌, ◌%◌, slice_index, sum, sym, ap, ◌∙◌, arith, mod-lt}
use Rattle.lt_draw.proofs.PickLemmas.{place_over-behind, place_over-whole}
use Rattle.lt_draw.specs.Pick.{place_over}
use Rattle.lt_draw.proofs.weights.pick.Goals as goal

pub returns-then-from-total-clause-place : goal.returns-then-from-total-clause-place
returns-then-from-total-clause-place c =
    let weights = c.args.weights.now in
    let first = c.first_above_zero-first in
    let own : slice_index weights first.result ≡ sum weights = omega (arith, c.if-from-total.true, c.from.ensures, c.sum_of-total.ensures) in
    sym (place_over-whole weights first.result (c.args.word % sum weights) first.ensures.within first.ensures.all_behind own (mod-lt c.args.word c.requires))

pub loop-rest-init : goal.loop-rest-init
loop-rest-init c =
    let weights = c.args.weights.now in
    let first = c.first_above_zero-first in
    let word = c.args.word in
    let rest = c.remainder-rest.ensures ∙ ap (λ n. word % n) c.sum_of-total.ensures in
    record {
      rest = omega (arith, rest, mod-lt word c.requires, first.ensures.all_behind);
      same = ap (place_over weights) (sym rest) ∙ place_over-behind weights first.result c.remainder-rest.result first.ensures.within first.ensures.all_behind;
    }
