-- Words of rows, added to those of a number.
pub mod Sums
