pub mod Frugal
pub mod Given
pub mod Mapped
pub mod Rest
pub mod Stands
