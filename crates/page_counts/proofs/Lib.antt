-- The laws behind the counts, block after block.
pub mod Looking
