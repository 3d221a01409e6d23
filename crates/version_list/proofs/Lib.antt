-- Laws of the list and of its places.
pub mod Lookups
pub mod Steps
