-- Words that private functions and proofs alone use.
-- the numbers that clap lets through
pub mod Fitting
-- why words ask for nothing, by clap's error
pub mod Refusal
