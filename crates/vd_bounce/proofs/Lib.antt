pub mod Kept
pub mod Pages
pub mod There
pub mod Wrote
