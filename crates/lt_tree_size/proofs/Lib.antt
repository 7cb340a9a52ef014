pub mod Weighings
pub mod Greatest
pub mod Public
