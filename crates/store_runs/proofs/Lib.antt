-- Laws of sequences of calls on a store.
pub mod Sequences
pub mod Changes
pub mod Lists
pub mod Reached
pub mod Numbers
pub mod OnFlash
pub mod Demands
