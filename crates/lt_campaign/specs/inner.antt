-- Words of private contracts.
-- what was written since a moment, and what waits to be written
pub mod Writing
-- sessions that took their parts, or not, where a write failed
pub mod Parting
-- sessions that fit their cores, and how much is left to do
pub mod Fitting
-- sessions that are started one after another
pub mod Starting
-- whether sessions go on
pub mod Rounding
