-- The work that a search may need.
pub mod Need
-- What contracts see of the room for it.
pub mod ScratchView
-- Words of private contracts.
pub mod inner
