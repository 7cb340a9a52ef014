use Rattle.std.proofs.Common.{arith}
use Rattle.lt_rif.proofs.NumberLemmas.{digit-fits}
use Rattle.lt_rif.proofs.decimal.digits_of.Goals as goal

pub overflow_mul-number : goal.overflow_mul-number
overflow_mul-number c =
    let small = digit-fits c.loop-byte.number c.loop-byte.byte-index c.loop-byte.invariant.small (omega (arith, c.loop-byte-test.true, c.if-text-most.false, c.requires)) in
    omega arith

pub overflow_add-number : goal.overflow_add-number
overflow_add-number c =
    let small = digit-fits c.loop-byte.number c.loop-byte.byte-index c.loop-byte.invariant.small (omega (arith, c.loop-byte-test.true, c.if-text-most.false, c.requires)) in
    let digit = c.from.ensures in
    let bound = c.if-not-is_ascii_digit.ensures in
    omega arith
