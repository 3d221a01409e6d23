-- What the parts of the writer speak of.
pub mod Writing
