-- The laws behind deciding the blocks of a page and keeping what repairs them.
pub mod Keeping
