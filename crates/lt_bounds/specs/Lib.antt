-- Ranges of variables.
pub mod Ranges
-- What rows say.
pub mod Rows
-- The passes of tightening.
pub mod Tightening
-- Values of places.
pub mod Places
-- Words of private contracts.
pub mod inner
