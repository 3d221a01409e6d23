-- Laws of the table: while it is made, and the table of a level.
pub mod Filling
pub mod Level
