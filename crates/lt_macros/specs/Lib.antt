-- Expressions with their places in the text.
pub mod Placed
-- What a node stands for: a tree without macros, in which parts have numbers.
pub mod Expanded
-- The tree that the code has.
pub mod Tree
-- What names stand for at a place of a text.
pub mod Environment
-- What literals, types and operators of a text are in a scenario.
pub mod Literals
-- What phrases of a text stand for.
pub mod Denotation
-- What the nodes of a text stand for.
pub mod Expansion
-- What fails a test.
pub mod Failing
-- The parts of a trace in preorder.
pub mod Preorder
-- How large an expansion is.
pub mod Nodes
-- How large a scenario may be.
pub mod Limits
-- What is answered where a node is asked for.
pub mod Answer
-- The numbers of locals and counters.
pub mod Numbering
-- Where locals are named.
pub mod Scoping
-- What an expansion names is there.
pub mod Naming
-- Words of private contracts and of what types keep.
pub mod inner
