-- Laws of the division: rows of bytes, the steps by a table and runs of them, and what is divided moved up to whole words.
pub mod Rows
pub mod Steps
pub mod Level
