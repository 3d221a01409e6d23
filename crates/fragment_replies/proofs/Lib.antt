-- When each reply of exporting and importing fragments is given.
pub mod ReplyRules
