-- Whether the numbers of a plan hold together.
pub mod Together
