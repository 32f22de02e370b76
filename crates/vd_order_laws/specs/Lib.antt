pub mod OrderLaw
pub mod OrderInstances
