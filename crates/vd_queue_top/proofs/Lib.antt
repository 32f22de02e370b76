pub mod Replies
pub mod Reached
pub mod Answered
pub mod Ends
pub mod Sizes
pub mod Ran
