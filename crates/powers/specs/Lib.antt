-- What a table of powers is, whole and filled in part.
pub mod Powers
pub mod Begun
