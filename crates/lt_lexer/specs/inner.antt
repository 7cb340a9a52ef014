-- Words that the contracts of private functions cite.
-- how the first piece of a text is found
pub mod Reading
-- signs by their letters
pub mod Spelling
