-- The replies of locating from a remainder, in order: what a reader must believe.
pub mod ReplyRules
