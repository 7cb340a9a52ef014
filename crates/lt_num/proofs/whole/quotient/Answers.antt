use Rattle.std.proofs.Common.{ap, sym, ◌∙◌, arith, int_div, if◌then◌else◌, Err, Bool}
use Rattle.std.proofs.lemmas.Int.{ints}
use Rattle.lt_num.specs.Answer.{bounded}
use Rattle.lt_num.specs.declared.fault.Arith.TheVariants.{DivisionByZero}
use Rattle.lt_num.proofs.QuotientLemmas.{quotient_kept, not_zero_test}
use Rattle.lt_num.proofs.whole.quotient.Goals as goal

pub returns : goal.returns
returns c =
    let a = c.args.a.raw in
    let b = c.args.b.raw in
    c.within.ensures
    ∙ ap bounded (quotient_kept c.from.result c.from-2.result a b (omega (arith, ints)) (omega (arith, ints)) (omega (arith, ints)) (omega (arith, ints)) (omega (arith, ints)))
    ∙ sym (ap (λ (is_zero : Bool). if is_zero then Err DivisionByZero else bounded (int_div a b)) (not_zero_test b (λ e. c.if-b-eq0.false (omega (arith, ints, e)))))
