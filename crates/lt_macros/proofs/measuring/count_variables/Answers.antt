use Rattle.std.proofs.Common.{◌<◌, length, arith}
use Rattle.lt_macros.proofs.Measured.{variable_more}
use Rattle.lt_macros.proofs.measuring.count_variables.Goals as goal

pub loop-variable-preserved : goal.loop-variable-preserved
loop-variable-preserved c =
    λ f.
    let more : c.loop-variable.variable-index < length c.args.variables.now = omega (arith, c.loop-variable-test.true, c.loop-variable.auto.variable-index-end) in
    omega (
      arith,
      variable_more f c.args.variables.now c.loop-variable.variable-index c.variable-item.result more c.variable-item.is,
      c.loop-variable.invariant f,
      c.in_ok-count_first.ensures f,
    )
