-- The words of this crate's contracts.
pub mod Windows
pub mod Flushes
pub mod Image
pub mod Machine
pub mod Does
pub mod Frugal
pub mod Ticked
