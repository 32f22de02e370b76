pub mod Texts
pub mod Stops
pub mod Places
mod Cutting
