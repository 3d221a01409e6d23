-- What the test is to tell.
pub mod Splitting
