mod Founds
mod Marks
pub mod Waits
pub mod Halts
pub mod Outs
