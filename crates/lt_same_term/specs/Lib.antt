-- which terms are the same, as the code finds it
pub mod Alike
-- the parts of a term of the code
pub mod View
-- a number for a term
pub mod Hash
-- what is told by this
pub mod Laws
