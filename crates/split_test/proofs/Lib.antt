-- Laws of squares and remainders at the roots of a polynomial.
pub mod Splitting
