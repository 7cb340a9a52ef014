-- A reader goes from here to Laws, in this order.
-- what a trace tells
pub mod Told
-- what the lines of a scenario's trace may show
pub mod Shape
-- how a trace ends
pub mod End
-- the lines of a trace, one after another
pub mod Lines
-- what the code's values stand for
pub mod View
-- what follows
pub mod Laws
-- words of private contracts
pub mod inner
