pub mod LineActs
