pub mod Failures
pub mod Agree
pub mod Waits
pub mod Plays
pub mod Halts
pub mod Ends
pub mod Answered
mod Conditions
