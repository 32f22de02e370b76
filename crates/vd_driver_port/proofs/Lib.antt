pub mod Quiet
pub mod Placed
pub mod Batch
pub mod Stepping
pub mod Filling
pub mod Mapping
