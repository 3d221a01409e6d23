-- Laws of partial remainders, and of the turns that reduce them.
pub mod Partial
pub mod Turns
