-- Texts in parts.
mod Texts
-- Texts that stand one after the other.
mod Gathering
-- Pieces of what is still to come.
mod Pieces
-- The links of a command.
mod Links
-- A reader of which no more than so many bytes are read.
mod Loading
-- The words of a command.
mod Words
-- What two pipes tell.
mod Keeping
