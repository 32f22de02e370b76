pub mod HeaderBytes
