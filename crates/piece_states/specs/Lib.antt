-- The parity of a block whose message arrives in pieces: what a reader must believe.
pub mod State
pub mod Calls
