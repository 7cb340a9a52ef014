use Rattle.std.proofs.Common.{◌<◌, length, map, ap, arith}
use Rattle.lt_macros.specs.Tree.{placed}
use Rattle.lt_macros.specs.inner.Figures.{arguments_figure}
use Rattle.lt_macros.proofs.Measured.{call_more}
use Rattle.lt_macros.proofs.measuring.count_calls.Goals as goal

pub loop-call-preserved : goal.loop-call-preserved
loop-call-preserved c =
    λ f.
    let more : c.loop-call.call-index < length c.args.calls.now = omega (arith, c.loop-call-test.true, c.loop-call.auto.call-index-end) in
    omega (
      arith,
      call_more f c.args.calls.now c.loop-call.call-index c.call-item.result more c.call-item.is,
      c.loop-call.invariant f,
      c.in_ok-count_arguments.ensures f,
      ap (λ es. arguments_figure f (map placed es)) c.deref.ensures.value,
    )
