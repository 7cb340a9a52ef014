-- Which plant words name.
pub mod Words
-- Lines to a plant, and what it replies.
pub mod Replies
-- What is due to an input: the replies to its lines, and the number at its end.
pub mod Service
-- The words of private contracts.
pub mod inner
