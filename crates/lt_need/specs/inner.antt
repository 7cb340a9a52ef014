-- Words of private contracts.
pub mod Choices
pub mod Conjuncts
pub mod Counts
pub mod Faces
pub mod GatheringView
pub mod Marks
pub mod Points
pub mod Reached
pub mod Uses
