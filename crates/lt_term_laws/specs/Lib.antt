-- How often counted loops turn.
pub mod Counting
-- What is done beside something else.
pub mod Siblings
-- Scopes that are entered again.
pub mod Scopes
-- What well typed expressions are worth.
pub mod Worths
