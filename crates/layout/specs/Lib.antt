-- Whether a layout record is accepted, and where bits lie.
pub mod Acceptance
pub mod Bits
pub mod Answers
