-- What the proofs of other crates may cite of this one.
-- what follows a node, and what follows a tree
pub use Rattle.lt_legal.proofs.Walks.{after_node, after_tree}
-- what the table tells of a tree that begins at a number
pub use Rattle.lt_legal.proofs.Walks.{tells}
-- what a shape has, and how many nodes
pub use Rattle.lt_legal.proofs.Walked.{count_is, has_is}
