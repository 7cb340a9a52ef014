-- The nodes of the code.
use Rattle.lt_legal.specs.Nodes.{Node, choice, order, spoilt, tip}
use Rattle.lt_legal.specs.declared.node.Node as code
use Rattle.lt_legal.specs.declared.node.Node.TheVariants as nodes

abbrev pub node_view : code.Node → Node
node_view (nodes.Tip b) = tip b
node_view nodes.Order = order
node_view (nodes.Choice ws) = choice ws.items
node_view (nodes.Spoilt b ws) = spoilt b ws.items
