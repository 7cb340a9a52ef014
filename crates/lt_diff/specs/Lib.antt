-- Bounds, their solutions, and stating one.
pub mod Bounds
-- The greatest numbers that the rules allow.
pub mod Limits
-- Walks over bounds.
pub mod Walks
-- What stating bounds and closing them leaves.
pub mod Closing
-- What contracts see of a matrix.
pub mod MatrixView
-- Laws.
pub mod Laws
-- Words of private contracts.
pub mod inner
