-- The words of this crate's contracts.
pub mod Acts
pub mod Ends
pub mod Forms
pub mod Stands
