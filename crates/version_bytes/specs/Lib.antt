-- The versions in use as they stand on flash.
pub mod Saved
