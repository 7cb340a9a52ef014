-- A scenario that is dropped is the one that was made.
use Rattle.lt_marks_tests.proofs.runs.check_body.Goals as goal

pub invariant_of-scenario-in_err-check_step-clause-flat : goal.invariant_of-scenario-in_err-check_step-clause-flat
invariant_of-scenario-in_err-check_step-clause-flat g c = c.in_ok-scenario.scenario.flat

pub invariant_of-scenario-then-not-branch-clause-flat : goal.invariant_of-scenario-then-not-branch-clause-flat
invariant_of-scenario-then-not-branch-clause-flat g c = c.in_ok-scenario.scenario.flat

pub invariant_of-scenario-2-clause-flat : goal.invariant_of-scenario-2-clause-flat
invariant_of-scenario-2-clause-flat g c = c.in_ok-scenario.scenario.flat
