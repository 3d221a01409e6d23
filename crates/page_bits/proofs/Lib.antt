-- Laws of Bits.
pub mod Placing
pub mod Inverse
