pub mod Bytes
pub mod Alike
pub mod Mapped
pub mod Placed
pub mod Back
