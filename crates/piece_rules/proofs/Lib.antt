-- Laws of the rules.
pub mod Replies
