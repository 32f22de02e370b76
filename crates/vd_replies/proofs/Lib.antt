-- Lemmas of this crate.
pub mod Spacing
pub mod Fields
