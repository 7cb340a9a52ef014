-- Choices by the truths of atoms, and their paths to true.
pub mod Choice
-- What the numbers of branches stand for, and when branches are ordered and reduced.
pub mod Branches
-- What contracts see of a diagram.
pub mod DiagramView
-- The greatest numbers that the rules allow.
pub mod Limits
-- What formulas of flags say.
pub mod Flags
-- Laws.
pub mod Laws
-- Words of private contracts.
pub mod inner
