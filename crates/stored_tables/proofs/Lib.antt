-- The laws of stored tables.
pub mod Copy
pub mod Chain
pub mod Steps
pub mod Stored
