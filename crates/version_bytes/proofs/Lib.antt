-- Laws of writing and loading them.
pub mod Saved
