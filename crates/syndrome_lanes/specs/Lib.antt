-- The values of a remainder, side by side.
pub mod Lanes
