-- Words of the private functions alone.
-- half a step
pub mod Half
