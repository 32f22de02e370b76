-- The lemmas of this crate.
pub mod Names
pub mod Sectors
pub mod Flushing
pub mod Images
pub mod Beside
pub mod Counts
pub mod Held
pub mod Engines
pub mod Deeds
pub mod AfterLine
pub mod AfterMaking
pub mod AfterEnd
pub mod AfterTick
pub mod Outcomes
pub mod Refusals
