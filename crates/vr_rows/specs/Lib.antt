-- The words of the contracts of the tests.
pub mod Rows
