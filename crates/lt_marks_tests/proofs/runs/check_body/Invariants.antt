-- The loop keeps what holds of the run.
use Rattle.lt_marks_tests.specs.Runs.{IsRun}
use Rattle.lt_marks_tests.proofs.runs.check_body.Given as goal

abbrev pub invariant-loop-step : goal.invariant-loop-step
invariant-loop-step g l = IsRun l.run
