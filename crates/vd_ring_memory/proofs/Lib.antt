pub mod Reading
pub mod Writing
pub mod Telling
pub mod Standing
pub mod Walks
pub mod RingTelling
pub mod Accepting
