-- The laws of positions at which two pages differ.
pub mod Passing
pub mod Listing
