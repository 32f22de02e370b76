-- The words of this crate's contracts.
pub mod Ends
pub mod Frugal
pub mod Sizes
pub mod Stands
pub mod Turns
