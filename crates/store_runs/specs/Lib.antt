-- Sequences of calls on a store.
pub mod Runs
pub mod Reached
pub mod Versions
