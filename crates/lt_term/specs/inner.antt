-- Words of private contracts.

-- Numbers that count alike where a tree is large.
pub mod Alike
-- What a tally weighs.
pub mod TallyView
-- Which scopes are entered.
pub mod Entered
-- What stands for a term after an instant.
pub mod Renewed
-- Numbers of rules and instants that lead to earlier ones.
pub mod Linked
-- How far a root is, and how much is left to be done for it.
pub mod Stages
