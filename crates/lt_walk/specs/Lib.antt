-- How many nodes stand before a part of a choice.
pub mod Before
-- What a chooser is asked, and what comes of its answer.
pub mod Asked
-- What leaves weigh that raise an exception.
pub mod Room
-- Words of private contracts.
pub mod inner
