-- Laws of the answer words.
pub mod Words
pub mod Sizes
pub mod Bits
pub mod Pages
pub mod Returns
pub mod Locating
pub mod Fragments
pub mod Pieces
