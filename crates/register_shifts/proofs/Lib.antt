-- The laws of registers moved up and down.
pub mod Shifts
