-- Words that the contracts of private functions cite.
-- the lists of a tree, as the code has them
pub mod Lists
-- the parts of a tree, as the code has them
pub mod Rows
