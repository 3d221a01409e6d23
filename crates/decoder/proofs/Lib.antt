-- That the decoder finds it.
pub mod Locating
