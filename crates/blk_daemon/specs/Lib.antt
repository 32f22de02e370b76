pub mod Held
pub mod Executed
pub mod Errors
pub mod Fetched
pub mod Finished
pub mod Parts
