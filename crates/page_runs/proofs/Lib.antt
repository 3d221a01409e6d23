-- The laws of what is done with the two runs of page bits of a run of the stream.
pub mod Parts
pub mod Division
pub mod Zeros
pub mod Copies
pub mod Puts
