-- The words of this crate's contracts.
pub mod Stored
pub mod Passing
