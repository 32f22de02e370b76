pub mod QueueLists
pub mod QueueLines
pub mod Worked
