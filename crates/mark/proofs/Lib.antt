-- The laws of the bit stream around the mark.
pub mod Places
pub mod Runs
pub mod Putting
