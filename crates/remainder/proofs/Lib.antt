-- Laws of remainders: numbers in words of 64 bits, the remainder as a fold, division as a linear map.
pub mod Words
pub mod Fold
pub mod Parity
pub mod Tests
