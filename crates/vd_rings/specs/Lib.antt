-- The words of this crate's contracts, and what is said of a ring in its region.
pub mod Stands
