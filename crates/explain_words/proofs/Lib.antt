-- The laws behind words of explanations.
pub mod Shown
pub mod Apart
