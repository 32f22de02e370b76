-- The lemmas of this crate.
pub mod Parts
pub mod Turns
pub mod Taken
