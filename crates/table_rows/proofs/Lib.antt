-- The laws of rows, and what the steps of the code do to them.
pub mod Rows
pub mod Steps
