pub mod Mem
pub mod MemLemmas
pub mod Reach
pub mod ReachLemmas
