pub mod Ordering
pub mod Holders
pub mod Tables
pub mod Walks
pub mod Slices
pub mod Onward
