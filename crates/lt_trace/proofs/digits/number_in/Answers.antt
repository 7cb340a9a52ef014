use Rattle.lt_trace.proofs.Numbers.{number-found}
use Rattle.lt_trace.proofs.digits.number_in.Goals as goal

pub returns : goal.returns
returns c = number-found c.args.text.now c.digits_in.result c.digits_in.ensures.some c.digits_in.ensures.none
