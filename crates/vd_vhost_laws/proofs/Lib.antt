mod Found
mod Accesses
mod Leaves
mod Changes
pub mod Law
mod Computed
