-- What comparing two pages answers and leaves.
pub mod Calls
pub mod ReplyRules
pub mod Steps
