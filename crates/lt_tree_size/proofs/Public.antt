-- What the proofs of other crates may cite of this one.
-- the numbers of a tree with a second part in place of each leaf that vanishes
pub use Rattle.lt_tree_size.proofs.Weighings.{seq_row}
-- what a constraint, a local or another term for where nothing can be done changes of the numbers of a tree: nothing
pub use Rattle.lt_tree_size.proofs.Weighings.{assert_row, exist_row, try_row}
-- what a tree weighs whose leaves are replaced by a rule
pub use Rattle.lt_tree_size.proofs.Weighings.{assert_weight, catch_weight, in_exist_weight, joined_weight, local_weight, par_weight, seq_weight, try_weight}
-- weights that are added
pub use Rattle.lt_tree_size.proofs.Weighings.{added}
-- the nodes that are counted are those of the tree
pub use Rattle.lt_tree_size.proofs.Weighings.{nodes_are_size}
