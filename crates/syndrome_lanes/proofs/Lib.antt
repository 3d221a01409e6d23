-- Laws of the values of a remainder, side by side.
pub mod Rows
