-- Words of private contracts and of proofs: nothing that a public contract says rests on them.

-- the parser's tokens as the grammar sees them
pub mod Tokens
-- reading one token a step, by what is still wanted
pub mod Reading
-- that a function of the parser answers as reading does
pub mod Parsing
-- what is wanted where a part of a list is read already
pub mod Onto
-- that the printed lines are those of the program that is read
pub mod Printing
-- refusals of tokens as refusals of a text
pub mod Placing
