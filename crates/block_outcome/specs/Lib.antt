-- What becomes of one block.
pub mod Counts
