-- Explanations in words of 64 bits.
pub mod Words
