use Rattle.std.proofs.Common.{map}
use Rattle.lt_trace.specs.View.{shape_view, step_view}
use Rattle.lt_trace.proofs.Steps.{values-next}
use Rattle.lt_trace.proofs.stage.next_after.Goals as goal

pub returns-in_ok-push_step-in-Some : goal.returns-in_ok-push_step-in-Some
returns-in_ok-push_step-in-Some c =
    rw c.in-Values.is
    (values-next (shape_view c.args.shape.now) (map step_view c.args.steps.now.items) (map step_view c.push_step.new.steps.items) (step_view c.in-Some.step) c.args.text.now c.in_ok-push_step-in-Some.ensures
    (rw c.in-Some.is at c.in_ok-step-in-Values.ensures))
