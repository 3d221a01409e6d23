-- What is read out of a vector.
pub mod Number
