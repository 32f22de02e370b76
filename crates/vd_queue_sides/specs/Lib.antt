pub mod Chains
pub mod Daemon
