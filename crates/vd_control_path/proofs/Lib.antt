-- The lemmas of this crate.
pub mod EndLemmas
pub mod Parts
