pub mod Short
pub mod Statuses
pub mod Settles
pub mod Fits
pub mod Unread
pub mod Over
