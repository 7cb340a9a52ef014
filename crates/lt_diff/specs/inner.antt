-- Words of private contracts.
pub mod Pivots
