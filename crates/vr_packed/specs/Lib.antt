pub mod Lies
pub mod Packed
pub mod State
