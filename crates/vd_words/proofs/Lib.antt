pub mod Cutting
pub mod Places
pub mod KnownWords
pub mod FirstWords
