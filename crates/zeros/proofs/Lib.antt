-- Laws of counting zeros.
pub mod Counting
