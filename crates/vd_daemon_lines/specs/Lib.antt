-- The words of this crate's contracts.
pub mod Known
pub mod Stands
pub mod After
pub mod Disk
pub mod Fetched
pub mod Finished
