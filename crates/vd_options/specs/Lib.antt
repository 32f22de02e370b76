pub mod Words
pub mod Programs
