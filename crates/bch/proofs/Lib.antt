pub mod Replies
pub mod Remainder
