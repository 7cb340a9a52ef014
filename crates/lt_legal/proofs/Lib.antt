pub mod Tables
pub mod Walks
pub mod LeavesLemmas
pub mod Standing
pub mod LegalWalks
pub mod Walked
pub mod Public
