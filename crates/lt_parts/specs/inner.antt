-- Words of private contracts.
pub mod Collected
pub mod Crowded
pub mod Flags
pub mod Numbered
