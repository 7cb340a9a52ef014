-- Words of private contracts.
pub mod Passed
