-- What deciding the blocks of a page and keeping what repairs them promise.
pub mod Keeping
