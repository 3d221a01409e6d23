-- The parity of a message so far and of one more piece: what a reader must believe.
pub mod Carried
