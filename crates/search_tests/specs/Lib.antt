-- The expanders that tests have.
pub mod Rows
pub mod Small
