-- Remainders in the form that a hardware locator takes: what a reader must believe.
pub mod Calls
