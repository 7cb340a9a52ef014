-- Words of private contracts.

-- what a reader takes at once
pub mod Chunk
-- digits, and whole numbers with a point that moves
pub mod Decimal
-- what words make of a reply that has begun
pub mod Draft
-- a reader by its draft
pub mod Open
-- what the lines of steps begin with
pub mod Head
-- words with spaces
pub mod Spaced
