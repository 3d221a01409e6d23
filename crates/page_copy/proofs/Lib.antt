-- The laws behind copying messages out of a page.
pub mod Messages
pub mod Flipping
pub mod Ends
