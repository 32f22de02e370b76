pub mod Number
pub mod Errno
pub mod Field
