pub mod GuestTable
pub mod VhostTurns
pub mod VhostLines
pub mod VhostOut
pub mod Worked
