-- The words of this crate's contracts.
pub mod Room
pub mod Short
pub mod Tells
