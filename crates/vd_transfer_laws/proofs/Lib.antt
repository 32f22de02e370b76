pub mod Transfers
pub mod TransferInstances
