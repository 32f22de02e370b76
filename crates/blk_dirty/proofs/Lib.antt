pub mod Marks
pub mod Edited
pub mod Copies
