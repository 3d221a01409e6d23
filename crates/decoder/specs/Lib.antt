-- What the decoder is to find.
pub mod Locating
