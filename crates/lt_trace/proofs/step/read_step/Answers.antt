use Rattle.std.proofs.Common.{◌≡◌, ◌≤◌, List, ℕ, Option, Result, IfOk, Ok, Err, subst, option_map}
use Rattle.lt_num.specs.Bounds.{most_decimals}
use Rattle.lt_trace.specs.Shape.{Shape}
use Rattle.lt_trace.specs.View.{shape_view, step_view}
use Rattle.lt_trace.specs.declared.recorded.RecordedStep.{RecordedStep}
use Rattle.lt_trace.specs.inner.Words.{IsLineRead, StepLineIsRead, read_line}
use Rattle.lt_trace.proofs.step.read_step.Goals as goal

read-step : {E : Type 0} → StepLineIsRead → (shape : Shape) (line : List ℕ) → shape.decimals ≤ most_decimals → (r : Result (Option RecordedStep) E) → IfOk r (λ o. read_line shape line ≡ option_map step_view o) → IfOk r (λ o. IsLineRead shape line (option_map step_view o))
read-step law shape line few (Ok o) h = subst (IsLineRead shape line) h (law shape line few)
read-step law shape line few (Err e) h = tt

pub returns : goal.returns
returns c = read-step c.step_line_is_read.ensures (shape_view c.args.shape.now) c.args.line.now c.args.shape.now.few c.step_in.result c.step_in.ensures
