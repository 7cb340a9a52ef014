-- A scenario that is dropped is the one that was made.
use Rattle.lt_marks_tests.proofs.first_offers.check_row.Goals as goal

pub invariant_of-scenario-in_err-tree-clause-flat : goal.invariant_of-scenario-in_err-tree-clause-flat
invariant_of-scenario-in_err-tree-clause-flat g c = c.in_ok-scenario.scenario.flat

pub invariant_of-scenario-in_err-shown-clause-flat : goal.invariant_of-scenario-in_err-shown-clause-flat
invariant_of-scenario-in_err-shown-clause-flat g c = c.in_ok-scenario.scenario.flat

pub invariant_of-scenario-in_err-paths-clause-flat : goal.invariant_of-scenario-in_err-paths-clause-flat
invariant_of-scenario-in_err-paths-clause-flat g c = c.in_ok-scenario.scenario.flat

pub invariant_of-scenario-2-clause-flat : goal.invariant_of-scenario-2-clause-flat
invariant_of-scenario-2-clause-flat g c = c.in_ok-scenario.scenario.flat
