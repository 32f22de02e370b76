pub mod Places
pub mod Told
pub mod Divided
pub mod Consistent
pub mod Allowed
pub mod Callers
