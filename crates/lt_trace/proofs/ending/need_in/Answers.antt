use Rattle.lt_trace.proofs.Needs.{need-slice, need-uncut}
use Rattle.std.proofs.Common.{sym}
use Rattle.lt_trace.proofs.ending.need_in.Goals as goal

pub returns-in_err-end : goal.returns-in_err-end
returns-in_err-end c = λ need rest small e. absurd (need-uncut c.args.text.now c.in_ok-rest.rest.now need rest small (sym c.in_ok-rest.ensures) e c.in_err-end.ensures.word)

pub returns : goal.returns
returns c = λ need rest small e. c.number_in.ensures need small (need-slice c.args.text.now c.in_ok-rest.rest.now need rest c.in_ok-end.end small (sym c.in_ok-rest.ensures) e c.in_ok-end.ensures.word)
