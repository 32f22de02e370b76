pub mod Spans
pub mod Calls
pub mod Refused
pub mod Sending
