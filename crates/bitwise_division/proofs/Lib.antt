-- The laws of the division bit by bit.
pub mod Single
