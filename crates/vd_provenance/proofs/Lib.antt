pub mod Following
pub mod Silent
