-- When each reply of locating from a remainder is given.
pub mod ReplyRules
