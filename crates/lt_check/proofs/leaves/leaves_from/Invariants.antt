use Rattle.std.proofs.Common.{map}
use Rattle.lt_legal.specs.NodeView.{node_view}
use Rattle.lt_check.proofs.AskingShapes.{shape_at}
use Rattle.lt_check.proofs.leaves.leaves_from.Given as goal

-- the tree of the number, as the nodes tell it
abbrev pub ghost-walk : goal.ghost-walk
ghost-walk g a = shape_at (map node_view a.nodes.now) a.from
