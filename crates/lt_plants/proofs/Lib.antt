-- Numbers of words.
mod Parsing
-- Reals that are printed as a text.
mod Reals
-- The form of a plant's lines.
mod Lines
-- What is due to the bytes after a line.
mod Dues
-- On the way through an input.
mod Ways
-- What a service took and sent.
mod Services
