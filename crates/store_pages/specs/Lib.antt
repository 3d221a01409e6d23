-- Page calls by version: the plan that a call works with, and which stores there are.
pub mod Tested
pub mod Kept
pub mod Steps
