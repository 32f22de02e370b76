pub mod TransferLaw
pub mod TransferInstances
