-- Pages written, damaged, looked at and taken, and what the five page calls answer: what a reader must believe.
pub mod Page
pub mod Reading
pub mod Claim
pub mod Calls
pub mod Damage
pub mod Demands
pub mod ReplyRules
pub mod Alike
pub mod Worn
