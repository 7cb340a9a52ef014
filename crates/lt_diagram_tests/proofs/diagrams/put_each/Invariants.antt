use Rattle.std.proofs.Common.{IsTrue}
use Rattle.lt_diagram.specs.Choice.{IsOneOf, paths_within, steps_of}
use Rattle.lt_diagram.specs.DiagramView.{diagram_choice}
use Rattle.lt_diagram_tests.proofs.diagrams.put_each.Given as goal

-- once it has begun, the places have a path
abbrev pub invariant-paths : goal.invariant-paths
invariant-paths l = IsTrue l.begun → IsOneOf (paths_within l.fixed (diagram_choice l.diagram)) (steps_of 0 l.path)
