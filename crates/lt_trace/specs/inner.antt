-- Words that private functions and proofs alone use.
-- the words of a line, as the code reads them
pub mod Words
-- what stands behind a front of a text
pub mod Front
-- which end a line tells
pub mod Ends
-- where the code stands between two lines
pub mod Stages
