-- the numbers that clap lets through
pub mod Fitting
-- words that are numbers
pub mod Numbers
-- what the getters of clap's matches read
pub mod Read
-- what the command makes of words
pub mod Taken
