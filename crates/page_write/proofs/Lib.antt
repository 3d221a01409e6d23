-- The laws behind the writer.
pub mod Writing
