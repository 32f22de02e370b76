pub mod DiskLemmas
pub mod PartLemmas
pub mod WholeLemmas
pub mod TakeLemmas
pub mod SpreadLemmas
pub mod FinishLemmas
