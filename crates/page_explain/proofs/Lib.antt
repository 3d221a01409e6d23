-- The laws behind explaining a block.
pub mod Positions
pub mod Listing
pub mod Explained
pub mod Truth
