-- A reader goes from here to Laws, in this order.
-- numbers that a call goes by
pub mod Settings
-- the command that reads the words
pub mod Command
-- what the words ask for
pub mod Words
-- the request that the code makes of them
pub mod Asked
-- what is said of wrong words
pub mod Usage
-- what follows
pub mod Laws
-- words of the crate's own
pub mod inner
