-- Words of private contracts and of what types keep.
pub mod Items
pub mod Firsts
pub mod Worth
pub mod Judged
pub mod Places
pub mod Declarations
pub mod Ready
pub mod Nesting
pub mod Put
pub mod Refusing
