pub mod Writes
pub mod Images
