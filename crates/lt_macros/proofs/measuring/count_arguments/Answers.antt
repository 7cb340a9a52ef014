use Rattle.std.proofs.Common.{◌<◌, length, arith}
use Rattle.lt_macros.proofs.Measured.{argument_more}
use Rattle.lt_macros.proofs.measuring.count_arguments.Goals as goal

pub loop-argument-preserved : goal.loop-argument-preserved
loop-argument-preserved c =
    λ f.
    let more : c.loop-argument.argument-index < length c.args.arguments.now = omega (arith, c.loop-argument-test.true, c.loop-argument.auto.argument-index-end) in
    omega (
      arith,
      argument_more f c.args.arguments.now c.loop-argument.argument-index c.argument-item.result more c.argument-item.is,
      c.loop-argument.invariant f,
      c.in_ok-count_expression.ensures f,
    )
