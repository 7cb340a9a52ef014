-- The atoms of Booleans, and their outlines.
pub mod Outline
-- The parts of a constraint.
pub mod Part
-- What parts of the code stand for.
pub mod PartView
-- What loaded parts say.
pub mod Agreement
-- How loaded constraints and comparisons hold.
pub mod Holding
-- When two expressions are one.
pub mod Same
-- How many atoms conjuncts have.
pub mod Atoms
-- Which scenarios have too many of them in one.
pub mod Scenario
-- Words of private contracts.
pub mod inner
