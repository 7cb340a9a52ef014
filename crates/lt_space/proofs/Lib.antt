pub mod Tellings
pub mod Circuits
pub mod Memos
pub mod FormLists
pub mod Measurings
pub mod Shapes
pub mod FormSteps
pub mod Visitings
pub mod GateDues
pub mod Loadings
mod Notings
