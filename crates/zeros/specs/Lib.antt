-- How many bits are counted at once.
pub mod Counting
