-- The words of this crate's contracts.
pub mod Asked
pub mod Executes
pub mod Pictures
pub mod Played
pub mod RunLaws
pub mod Written
