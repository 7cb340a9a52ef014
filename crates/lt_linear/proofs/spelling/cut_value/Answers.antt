use Rattle.std.proofs.Common.{arith}
use Rattle.lt_linear.proofs.Numerals.{cut_step}
use Rattle.lt_linear.proofs.spelling.cut_value.Goals as goal

-- one digit more is read
pub loop-digit-preserved : goal.loop-digit-preserved
loop-digit-preserved c =
    record {
      value = rw (c.min-value.ensures, c.from.ensures) (cut_step c.args.digits.now c.loop-digit.value c.loop-digit.digit-index _ c.requires c.loop-digit-test.true c.loop-digit.invariant.value);
      small = omega (arith, c.min-value.ensures);
    }
