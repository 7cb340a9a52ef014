-- When all expressions of a node are well typed.
pub mod TypedNode
-- Macros that stand for what their types say.
pub mod Macros
-- What holds of every program.
pub mod Laws
-- What holds of every text.
pub mod TextLaws
