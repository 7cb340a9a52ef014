-- Why there is no tree for a node, as why it has no scenario.
use Rattle.lt_macros.specs.declared.refusal.NodeRefusal.{NodeRefusal}
use Rattle.lt_macros.specs.declared.refusal.NodeRefusal.TheVariants as tree
use Rattle.lt_expand.specs.declared.refusal.ExpandRefusal.{ExpandRefusal}
use Rattle.lt_expand.specs.declared.refusal.ExpandRefusal.TheVariants as scenario

-- the same refusal
abbrev pub refusal_of_tree : NodeRefusal → ExpandRefusal
refusal_of_tree tree.UnknownNode = scenario.UnknownNode
refusal_of_tree (tree.TooLarge limit) = scenario.TooLarge limit
refusal_of_tree tree.Memory = scenario.Memory
