pub mod Found
pub mod Ids
pub mod Due
pub mod Seen
pub mod Turns
pub mod Ends
pub mod Runs
