-- The laws behind the count of a block.
pub mod Counts
