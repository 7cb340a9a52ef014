-- the words of a seed, by step and slot
pub mod Word
-- the place that a word picks by weight
pub mod Pick
-- the point of a range that a word aims at
pub mod Target
-- the direction in which a variable goes on from there
pub mod Direction
-- words of the private functions alone
pub mod inner
