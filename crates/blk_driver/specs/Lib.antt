pub mod Buffers
pub mod Driver
pub mod Polled
pub mod Asked
pub mod Pended
pub mod Mapped
pub mod Placed
