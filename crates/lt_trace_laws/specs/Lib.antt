-- runs that are played again from their own trace
pub mod Replay
-- runs that are told by what their traces show
pub mod Shown
