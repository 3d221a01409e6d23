-- What the stored tables are to hold.
pub mod Rows
