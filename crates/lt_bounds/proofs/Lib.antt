-- What the proofs of other crates may cite.
pub mod Public
-- One term of a row.
mod Cuts
-- Sums over a row.
mod SumLemmas
-- A row takes one variable more.
mod Steps
-- Rows one after another.
mod Passes
-- Points of ranges.
mod Points
-- Values of places.
mod Scales
