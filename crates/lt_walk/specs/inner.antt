-- What stands at a path.
pub mod Spot
-- What leaves weigh in the part of a tree at hand.
pub mod Context
-- Walks that are under way in a part of a tree.
pub mod Underway
