use Rattle.std.proofs.Common.{sym, ap, ◌∙◌}
use Rattle.lt_rif.specs.Judgement.{bounded_raw}
use Rattle.lt_rif.proofs.RealLemmas.{real-is, past-bound}
use Rattle.lt_rif.proofs.number.real_of.Goals as goal

pub returns-in-Some-rounded : goal.returns-in-Some-rounded
returns-in-Some-rounded c =
    let is = real-is c.args.decimals c.args.word.now c.split_sign-negative.result.1.now c.split_sign-negative.result.0 c.in-Some.scaled c.split_sign-negative.ensures.minus c.split_sign-negative.ensures.after c.in-Some.ensures in
    let size = c.in-Some-rounded.ensures in
    c.bounded.ensures ∙ rw size (sym (ap bounded_raw is))

pub returns-in-None-rounded : goal.returns-in-None-rounded
returns-in-None-rounded c =
    let is = real-is c.args.decimals c.args.word.now c.split_sign-negative.result.1.now c.split_sign-negative.result.0 c.in-Some.scaled c.split_sign-negative.ensures.minus c.split_sign-negative.ensures.after c.in-Some.ensures in
    past-bound c.split_sign-negative.result.0 _ c.in-None-rounded.ensures ∙ sym (ap bounded_raw is)
