-- The words of this crate's contracts.
pub mod Outs
pub mod Replies
pub mod Runs
pub mod Statuses
pub mod Written
