pub mod WordLemmas
pub mod JumpLemmas
pub mod PickLemmas
pub mod TargetLemmas
pub mod Public
