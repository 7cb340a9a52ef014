-- The loop keeps what holds of the run.
use Rattle.lt_marks_tests.specs.Runs.{IsRun}
use Rattle.lt_marks_tests.proofs.runs.check_nodes.Given as goal

abbrev pub invariant-loop-node : goal.invariant-loop-node
invariant-loop-node g l =
    (goal.iterator-loop-node g).can_next l.node-iterator ×
    (goal.iterator-loop-node g).is_finite l.node-iterator ×
    IsRun l.run
