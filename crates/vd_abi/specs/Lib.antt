pub mod Layout
pub mod Structs
