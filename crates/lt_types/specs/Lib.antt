-- the names that are visible at a place, and what they stand for
pub mod Environment
-- what values of the code stand for
pub mod View
-- the types of operators, and where one type serves as another
pub mod Operators
-- the numbers that the ends of a range are read as
pub mod Literal
-- programs and expressions that texts spell
pub mod Spelled
-- when a program is well typed
pub mod Typing
-- the rules that a program breaks, in the order of its text
pub mod Refusals
-- what holds of every program
pub mod Law
-- the refusal that is answered
pub mod Answer
-- the codes and places of refusals
pub mod Codes
-- words that only private contracts and proofs use
pub mod inner
