-- The laws behind the judge.
pub mod Ends
