-- The laws of what a comparison shows of a block.
pub mod Showing
