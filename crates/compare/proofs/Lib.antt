-- The laws of comparing two pages.
pub mod Ends
pub mod ReplyRules
