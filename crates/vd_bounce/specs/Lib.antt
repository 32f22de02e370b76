pub mod Bounce
pub mod Frames
