-- The laws of digits in pages and bytes.
pub mod Bytes
