use Rattle.std.proofs.Common.{◌<◌, length, ◌∙◌, arith}
use Rattle.lt_macros.specs.inner.Started.{sum_from}
use Rattle.lt_macros.specs.inner.Reading.{environment, meant}
use Rattle.lt_macros.proofs.Runs.{argument_put, no_argument_left}
use Rattle.lt_macros.proofs.counting_runs.put_arguments.Goals as goal

pub loop-argument-preserved : goal.loop-argument-preserved
loop-argument-preserved c =
    let more : c.loop-argument.argument-index < length c.args.arguments.now = omega (arith, c.loop-argument-test.true, c.loop-argument.auto.argument-index-end) in
    record {
      figures = λ decimals rows f n.
          argument_put f (environment (meant decimals) rows c.args.at.environment) c.args.arguments.now c.loop-argument.argument-index c.argument-item.result
          (sum_from decimals rows f c.loop-argument.count n) (sum_from decimals rows f c.put_argument.new.count n) _ more c.argument-item.is
          (c.in_ok-put_argument.ensures.figures decimals rows f n) (c.loop-argument.invariant.figures decimals rows f n);
      numbers = c.in_ok-put_argument.ensures.numbers ∙ c.loop-argument.invariant.numbers;
      within = λ least w. c.in_ok-put_argument.ensures.within least (c.loop-argument.invariant.within least w);
    }

pub returns-clause-figures : goal.returns-clause-figures
returns-clause-figures c =
    λ decimals rows f n.
    omega (
      arith,
      c.loop-argument.invariant.figures decimals rows f n,
      no_argument_left f (environment (meant decimals) rows c.args.at.environment) c.args.arguments.now c.loop-argument.argument-index c.loop-argument-test.false,
    )
