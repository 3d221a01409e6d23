-- Rows of a table of bytes.
pub mod Rows
