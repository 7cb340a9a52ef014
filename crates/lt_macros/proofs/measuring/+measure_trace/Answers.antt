use Rattle.std.proofs.Common.{◌≡◌, ◌<◌, ◌≤◌, length, ap, arith}
use Rattle.std.proofs.lemmas.List.{take_all}
use Rattle.lt_macros.specs.Tree.{expanded}
use Rattle.lt_macros.specs.inner.Figures.{choice_weight, expanded_figure}
use Rattle.lt_macros.specs.inner.Measured.{alternatives_figure}
use Rattle.lt_macros.proofs.Measured.{alternative_more, alternatives_are, alternatives_count}
use Rattle.lt_macros.proofs.measuring.+measure_trace.Goals as goal

pub count_parts-loop-alternative-init : goal.count_parts-loop-alternative-init
count_parts-loop-alternative-init t c =
    λ f.
    let many : c.len.result ≡ length c.deref-alternative-items.result.now = omega (arith, c.len.ensures, c.deref-alternative-items.ensures.len) in
    omega (arith, c.in_ok-tally.ensures f, ap (choice_weight f) many)

pub count_parts-loop-alternative-preserved : goal.count_parts-loop-alternative-preserved
count_parts-loop-alternative-preserved t c =
    λ f.
    let items = c.deref-alternative-items.result.now in
    let more : c.loop-alternative.alternative-index < length items = omega (arith, c.loop-alternative-test.true, c.loop-alternative.auto.alternative-index-end) in
    omega (
      arith,
      alternative_more f c.args.depth items c.loop-alternative.alternative-index c.alternative-item.result more c.alternative-item.is,
      c.loop-alternative.invariant f,
      c.in_ok-count_expression.ensures f,
      c.in_ok-count_trace.ensures f,
      ap (λ b. expanded_figure f c.args.depth (expanded b)) c.deref.ensures,
    )

pub count_parts-returns : goal.count_parts-returns
count_parts-returns t c =
    λ f.
    let items = c.deref-alternative-items.result.now in
    let passed : length items ≤ c.loop-alternative.alternative-index = omega (arith, c.loop-alternative-test.false) in
    omega (
      arith,
      c.loop-alternative.invariant f,
      ap (alternatives_figure f c.args.depth) (take_all c.loop-alternative.alternative-index items passed),
      alternatives_are f c.args.depth c.args.alternatives.now items c.deref-alternative-items.ensures.value,
      ap (choice_weight f) (alternatives_count c.args.alternatives.now items c.deref-alternative-items.ensures.value),
    )
