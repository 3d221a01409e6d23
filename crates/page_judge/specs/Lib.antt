-- The answer to one block.
pub mod Answers
