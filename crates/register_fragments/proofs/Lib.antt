-- Laws of numbers in fragments.
pub mod Numbers
