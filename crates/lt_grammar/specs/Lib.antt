-- tokens as the grammar sees them
pub mod Lexemes
-- how tightly expressions bind
pub mod Precedence
-- which tokens are which tree
pub mod Grammar
-- how deeply a program may be nested
pub mod Nesting
-- that tokens are a program or an expression, that they begin one, and where they stop doing so
pub mod Program
-- which program or expression a text is
pub mod Text
-- that a program is written with the tokens that spell it
pub mod Written
-- programs without places, and tokens at other places
pub mod Unplaced
-- that printed text reads back
pub mod PrintedText
