-- When each reply about a layout is given, and cases.
pub mod Cases
pub mod ReplyRules
pub mod Editions
