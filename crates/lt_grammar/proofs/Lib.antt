pub mod Lexing
pub mod PrintedText
pub mod Stops
pub mod Unplaced
pub mod Written
