-- Remainders: as numbers and as bytes, and the parity of a message worked out from the start on.
pub mod Remainder
pub mod Parity
