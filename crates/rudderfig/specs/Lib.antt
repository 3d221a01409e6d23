-- What the calls of the C interface return.
pub mod Bits
pub mod Pages
pub mod Locating
pub mod Fragments
pub mod Pieces
pub mod Explaining
