pub mod Replies
pub mod Meaning
pub mod Back
