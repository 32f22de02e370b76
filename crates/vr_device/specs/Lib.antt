pub mod Side
pub mod Device
