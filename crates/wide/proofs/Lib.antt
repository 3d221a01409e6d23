-- The laws of numbers in bytes, and what the steps of the code do to them.
pub mod Bytes
pub mod Steps
