-- That cuts do not matter, and the replies in order: what a reader must believe.
pub mod Cutting
pub mod ReplyRules
