pub mod Through
pub mod TableLaw
pub mod TableInstances
