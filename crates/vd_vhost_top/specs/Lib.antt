-- The words of this crate's contracts.
pub mod Answered
pub mod Promise
