-- Bounds and first values.
pub mod Static
-- Where an expression depends on what is drawn and may not.
pub mod Classes
-- The numbers of exceptions.
pub mod Exceptions
-- How many runs the nest of a node has.
pub mod Nested
-- Where the nodes of a text stand.
pub mod Nesting
-- The runs of a node that is expanded.
pub mod Calls
-- The scenario of a node.
pub mod Scenes
-- Why a text has no scenario.
pub mod Refusals
-- What is answered where a program is expanded.
pub mod Answer
-- The codes and places of refusals.
pub mod Codes
-- Words of private contracts and of what types keep.
pub mod inner
