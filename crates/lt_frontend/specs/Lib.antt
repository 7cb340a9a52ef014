-- what is made of a text
pub mod Prepared
-- the nest of a node, and what a text has as a nest
pub mod Nest
-- the nest that a value of the code stands for
pub mod NestView
-- the codes and places of refusals
pub mod Codes
-- what holds of every text
pub mod Laws
-- words that private contracts and proofs alone use
pub mod inner
