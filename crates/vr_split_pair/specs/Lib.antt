pub mod Lies
pub mod Split
pub mod State
