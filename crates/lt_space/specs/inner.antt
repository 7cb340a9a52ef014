-- Words of private contracts and of what private types keep.
pub mod Kept
pub mod Cell
pub mod Memo
pub mod Place
pub mod Forms
pub mod Measures
pub mod Pushed
pub mod Work
pub mod Noted
pub mod Both
