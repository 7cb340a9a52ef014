-- single bytes, and the bytes that a text begins with
pub mod Byte
-- which signs are symbols
pub mod Symbol
-- blanks, comments and tokens
pub mod Piece
-- what tokens a text has, and why a text has none
pub mod Tokenization
-- which signs have letters of their own
pub mod Spelled
-- what a token is in its text, and where tokens stand
pub mod Source
-- tokens set apart by blanks
pub mod Apart
-- the codes and the places of refusals
pub mod Refusals
-- words that the contracts of private functions cite
pub mod inner
