pub mod Words
pub mod Places
pub mod Views
pub mod Backed
pub mod Rule
pub mod Steps
pub mod Passes
