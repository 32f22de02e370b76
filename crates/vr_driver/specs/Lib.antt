pub mod Driver
pub mod Side
