pub mod Handlers
pub mod Contexts
pub mod Spots
pub mod Parts
pub mod Asks
pub mod Walked
pub mod Underways
pub mod Roots
