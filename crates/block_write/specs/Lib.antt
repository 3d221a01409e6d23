-- What is written for one block.
pub mod Encoded
