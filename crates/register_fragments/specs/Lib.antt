-- Fragments of a number: what a reader must believe.
pub mod Fragments
