-- The words of this crate's contracts.
pub mod Daemons
pub mod Flushes
pub mod Image
pub mod Lines
pub mod Drivers
pub mod Stands
pub mod Rest
