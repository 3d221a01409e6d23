-- The table by which messages are divided, and its rows while it is made.
pub mod Table
pub mod Sums
