-- What copying messages out of a page promises.
pub mod Copying
