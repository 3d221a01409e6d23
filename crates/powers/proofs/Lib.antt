-- The laws of filling tables.
pub mod Fill
pub mod Strides
