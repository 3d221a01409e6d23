-- Laws of words that are read from bytes.
pub mod Turned
