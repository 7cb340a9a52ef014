use Rattle.lt_marks.proofs.Nodes.{leaves_are_nodes, weights_are_nodes}
use Rattle.lt_marks.proofs.laws.arrivals_are_nodes.Goals as goal

pub returns-clause-leaves : goal.returns-clause-leaves
returns-clause-leaves c = leaves_are_nodes

pub returns-clause-weights : goal.returns-clause-weights
returns-clause-weights c = weights_are_nodes
