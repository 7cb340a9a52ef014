-- Lists of variables.
mod Places
-- Walks: their parts, and lower ones.
mod Walks
-- What one pivot keeps.
mod Pivots
-- Cells are at most the sums of walks.
mod LeastWalks
-- Walks without cycles.
mod Shortening
-- Pivots one after another.
mod Closure
-- Stating one bound more.
mod Stating
-- The least values.
mod Leasts
-- Cells of a square.
mod Cells
-- Laws.
mod LawLemmas
