pub mod Fronts
pub mod Allowed
pub mod Moments
pub mod Kept
pub mod Places
pub mod Regions
pub mod Turns
