pub mod NextLemmas
pub mod UsedLemmas
pub mod Reached
