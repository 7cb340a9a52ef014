-- Words that private contracts and proofs alone use.
-- what refusals of the layers are told as
pub mod Wants
-- what is found of a node that is run
pub mod Found
