-- Numbers in bytes.
pub mod Bytes
