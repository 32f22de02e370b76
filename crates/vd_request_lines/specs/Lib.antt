-- The words of this crate's contracts.
pub mod Known
pub mod Stands
pub mod After
pub mod Ended
pub mod Ending
pub mod Completed
pub mod Made
pub mod Asking
pub mod Submitting
