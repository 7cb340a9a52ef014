-- which steps may follow one another
pub mod Follows
-- which traces are legal runs
pub mod LegalRun
-- which leaves have to be searched
pub mod Searched
-- what is said of a trace
pub mod Verdict
-- legal leaves as a list
pub mod Leaves
-- the fewest questions
pub mod Walk
-- a tree as a list of nodes
pub mod Nodes
-- the nodes of the code
pub mod NodeView
-- a tree by what a test says of its leaves
pub mod Shapes
-- what a table of nodes tells
pub mod Tables
-- of which trees a walk asks
pub mod Asked
-- the walk of the code
pub mod Back
