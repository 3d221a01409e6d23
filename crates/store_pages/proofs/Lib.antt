-- Laws of page calls by version.
pub mod Keeping
pub mod Versions
