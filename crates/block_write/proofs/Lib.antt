-- The laws behind writing a block.
pub mod Encoding
