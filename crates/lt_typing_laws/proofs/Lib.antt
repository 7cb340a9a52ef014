pub mod Operators
pub mod Tables
pub mod Locals
pub mod Fitting
pub mod Typed
pub mod Nodes
pub mod Told
pub mod Listed
mod Spelled
