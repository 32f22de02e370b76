pub mod EachFrom
pub mod Added
pub mod Ranges
pub mod Changed
