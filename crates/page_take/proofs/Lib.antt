-- The laws behind taking a page.
pub mod Ends
