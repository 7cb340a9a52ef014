use Rattle.std.proofs.Common.{arith}
use Rattle.lt_trace.proofs.Numbers.{digits-grow}
use Rattle.std.specs.Str.Parse.{digits_value}
use Rattle.lt_trace.proofs.digits.digits_in.Goals as goal

pub returns-in-None-clause-none : goal.returns-in-None-clause-none
returns-in-None-clause-none c = λ e h.
    let bound = c.if-not-is_ascii_digit.ensures in
    let over = c.in-None.ensures in
    let grown = digits-grow c.args.text.now c.loop-byte.byte-index c.loop-byte.number (digits_value 10 c.args.text.now) c.loop-byte-test.true (omega arith) (omega arith) c.loop-byte.invariant.value in
    omega arith
