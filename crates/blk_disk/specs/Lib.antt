-- The words of this crate's contracts.
pub mod Contents
pub mod Moments
