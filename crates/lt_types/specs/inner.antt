-- Words that only private contracts and proofs use.

-- what an answer says of a list of broken rules
pub mod Checks
-- the environment that the code has
pub mod Scoping
-- names that are found without going through all of them
pub mod Stacks
-- chains of operators as the code takes them apart
pub mod Chains
-- what the code has of a construct
pub mod Given
