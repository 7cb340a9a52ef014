-- What finished links leave behind.
pub mod Keeping
