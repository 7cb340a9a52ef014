-- syntax trees, without pointers
pub mod Syntax
-- the letters of names and numbers
pub mod Letters
-- the tree that a value of the code stands for
pub mod View
-- places in a text
pub mod Places
-- the classes of operators
pub mod Operators
-- the texts and the types of numbers
pub mod Literals
-- the letters of each sign
pub mod Signs
-- the tokens that a tree is written with
pub mod Tokens
-- the text that a program is printed as
pub mod Printed
-- words that the contracts of private functions cite
pub mod inner
