-- The loop keeps what holds of the run.
use Rattle.lt_marks_tests.specs.Runs.{IsRun}
use Rattle.lt_marks_tests.proofs.runs.check_parts.Given as goal

abbrev pub invariant-loop-part : goal.invariant-loop-part
invariant-loop-part g l = IsRun l.run
