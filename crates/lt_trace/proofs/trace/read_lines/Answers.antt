use Rattle.std.proofs.Common.{◌-◌, Some, ap, arith, drop, map, refl, suc, take}
use Rattle.lt_trace.specs.Lines.{no_line}
use Rattle.lt_trace.specs.Told.{Told}
use Rattle.lt_trace.specs.View.{shape_view, step_view}
use Rattle.lt_trace.specs.declared.stage.Next.TheVariants as next
use Rattle.lt_trace.specs.inner.Stages.{ComesNext, IsFeed, place_at}
use Rattle.lt_trace.proofs.Chains.{feed-within, last-line, line-too-much, missing-line, next-at, wrong-line}
use Rattle.lt_trace.proofs.trace.read_lines.Goals as goal

pub loop-end-init : goal.loop-end-init
loop-end-init c = record { within = omega arith; lines = (0, refl, no_line); so_far = ap (map step_view) c.new-steps.ensures.items; small = omega arith }

pub returns-in_default : goal.returns-in_default
returns-in_default c =
    let lines = c.loop-end.invariant.lines in
    missing-line (shape_view c.args.shape.now) c.args.text.now c.loop-end.at c.loop-end.number lines.0 c.loop-end.stage (map step_view c.loop-end.steps.items) lines.1 lines.2 (rw c.in_default.is at c.feed_from.ensures)

pub returns-in-Over : goal.returns-in-Over
returns-in-Over c =
    let lines = c.loop-end.invariant.lines in
    let t : Told = record { steps = map step_view c.next_after.new.steps.items; end = c.in-Over.field-0 } in
    line-too-much (shape_view c.args.shape.now) c.args.text.now c.loop-end.at c.in-Some.end c.loop-end.number lines.0 (place_at c.loop-end.stage (map step_view c.loop-end.steps.items)) t lines.1 c.loop-end.invariant.within lines.2
    (rw c.in-Some.is at c.feed_from.ensures) (rw c.in-Over.is at c.in_ok-following.ensures) c.if-end-text.true

pub returns-in-Over-2 : goal.returns-in-Over-2
returns-in-Over-2 c =
    let lines = c.loop-end.invariant.lines in
    let t : Told = record { steps = map step_view c.next_after.new.steps.items; end = c.in-Over.field-0 } in
    last-line (shape_view c.args.shape.now) c.args.text.now c.loop-end.at c.in-Some.end lines.0 (place_at c.loop-end.stage (map step_view c.loop-end.steps.items)) t c.loop-end.invariant.within lines.2
    (rw c.in-Some.is at c.feed_from.ensures) (rw c.in-Over.is at c.in_ok-following.ensures) c.if-end-text.false

pub returns-in-Bad : goal.returns-in-Bad
returns-in-Bad c =
    let lines = c.loop-end.invariant.lines in
    wrong-line (shape_view c.args.shape.now) c.args.text.now c.loop-end.at c.in-Some.end c.loop-end.number lines.0 c.loop-end.stage (map step_view c.loop-end.steps.items) lines.1 lines.2
    (rw c.in-Some.is at c.feed_from.ensures) (rw c.in-Bad.is at c.in_ok-following.ensures)

pub loop-end-preserved : goal.loop-end-preserved
loop-end-preserved c =
    let lines = c.loop-end.invariant.lines in
    let count = lines.1 in
    let small = c.loop-end.invariant.small in
    let feed : IsFeed c.args.text.now c.loop-end.at (Some c.in-Some.end) = rw c.in-Some.is at c.feed_from.ensures in
    let bound = feed-within c.args.text.now c.loop-end.at c.in-Some.end c.loop-end.invariant.within feed in
    let onward : ComesNext (shape_view c.args.shape.now) (place_at c.loop-end.stage (map step_view c.loop-end.steps.items)) (take (c.in-Some.end - c.loop-end.at) (drop c.loop-end.at c.args.text.now)) (next.At c.in-At.following) (map step_view c.next_after.new.steps.items) = rw c.in-At.is at c.in_ok-following.ensures in
    record {
      within = omega arith;
      lines = (
        suc lines.0,
        omega arith,
        next-at (shape_view c.args.shape.now) c.args.text.now c.loop-end.at c.in-Some.end lines.0 (place_at c.loop-end.stage (map step_view c.loop-end.steps.items)) (place_at c.in-At.following (map step_view c.next_after.new.steps.items)) c.loop-end.invariant.within lines.2 feed onward.0,
      );
      so_far = onward.1;
      small = omega arith;
    }
