-- The laws behind looking over the blocks of a page and deciding them.
pub mod Remainders
pub mod Scanning
pub mod Deciding
