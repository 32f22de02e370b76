pub mod RegionLaw
pub mod RegionInstances
