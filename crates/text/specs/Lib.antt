-- What texts say.
pub mod Bytes
pub mod Hex
pub mod Numbers
pub mod Parts
