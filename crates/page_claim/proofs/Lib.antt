-- How a claim is answered.
pub mod Ends
