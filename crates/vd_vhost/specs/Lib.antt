pub mod Told
pub mod After
pub mod Parts
pub mod Steps
