pub mod Legal
pub mod Views
pub mod Rule
pub mod Steps
pub mod Journals
pub mod Memory
