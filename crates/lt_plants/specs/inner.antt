-- On the way through an input.
pub mod Going
-- What a plant replies with.
pub mod Told
-- The numbers at the end of a service.
pub mod Endings
