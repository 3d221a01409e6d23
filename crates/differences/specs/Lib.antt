-- Where two pages differ, and what passing over positions promises.
pub mod Differences
pub mod Passing
