pub mod Fronts
pub mod Mergings
pub mod Exactness
pub mod Ordered
pub mod Numerals
pub mod Spellings
pub mod Public
