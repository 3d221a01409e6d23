-- Masks over pages, and the round trip of a page.
pub mod Mask
pub mod Round
