-- The laws behind looking at a page.
pub mod Ends
