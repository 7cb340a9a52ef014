pub mod Alikes
pub mod Rows
pub mod Keys
pub mod Telling
pub mod Public
