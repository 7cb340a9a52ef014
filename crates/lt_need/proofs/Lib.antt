-- What gates stand for.
pub mod Standings
-- What is in lists, and tests of it.
pub mod Lists
-- How many different atoms there are.
pub mod Counting
-- What is reached from a gate.
pub mod Gatherings
-- Room to gather atoms in.
pub mod Rooms
-- Choices of one formula.
pub mod Factors
-- Choices of all conjuncts.
pub mod Sums
-- What weights add up to.
pub mod Weights
-- Parts of terms.
pub mod Terms
-- Which variables are shared.
pub mod Sharings
-- Products that stop.
pub mod Powers
-- The hard variables of lists with the same atoms, and their points.
pub mod Points
