-- The binary BCH code of document 01: what a reader must believe.
pub mod Word
pub mod Code
pub mod Generator
pub mod Search
pub mod Outcome
pub mod Locations
pub mod Register
pub mod Multiple
