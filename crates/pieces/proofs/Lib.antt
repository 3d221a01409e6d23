-- Laws of pieces: how calls end, that cuts do not matter, when each reply is given.
pub mod Ends
pub mod Cutting
pub mod ReplyRules
