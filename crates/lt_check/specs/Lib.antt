-- the shape of a scenario's traces
pub mod Shape
-- words of the private functions alone
pub mod inner
