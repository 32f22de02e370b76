pub mod Ahead
pub mod IsAt
