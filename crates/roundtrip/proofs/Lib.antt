-- Laws of masks, and of the round trip of a page.
pub mod Masks
pub mod Trips
