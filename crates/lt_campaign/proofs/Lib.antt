-- Each run is driven as one that is alone.
pub mod Alone
-- What was written to a trace, and what waits.
pub mod Writing
-- The lines of a framed trace.
pub mod Lines
-- Sessions fit their cores, and a round lowers what is left to do.
pub mod Fitting
-- A session took its part, and its frame was put.
pub mod Parting
-- The first sessions of a round took their parts, one after another.
pub mod Places
-- Sessions go through rounds, one after another.
pub mod Playing
-- The sides of sessions stay of their kinds.
pub mod SideKinds
-- A run takes its part of a round.
pub mod Taking
-- Sessions that are started, one after another.
pub mod Starts
-- Sessions that are closed, one after another.
pub mod Closes
-- A campaign, from its start to its end.
pub mod Plays
-- No count of faults of programs falls where sessions are started and closed.
pub mod Counts
-- Through rounds, sessions keep their places.
pub mod Took
-- What a session is blamed for was counted.
pub mod Caused
-- How many sessions ended well.
pub mod WellCounts
-- Sessions that go through rounds are each alone.
pub mod Parts
-- Sessions whose links tell what they have left.
pub mod Wholes
-- How many steps a session has put out.
pub mod Fewer
