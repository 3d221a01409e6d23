-- Laws of layouts of sectors.
pub mod Answering
pub mod Accepting
pub mod ReplyRules
pub mod Cases
