-- what a run writes to its trace
pub mod Written
-- what its trace tells, and the verdict on it
pub mod Traces
