-- Laws of the store.
pub mod Searches
