pub mod BlockLaw
pub mod BlockInstances
pub mod RingLaws
