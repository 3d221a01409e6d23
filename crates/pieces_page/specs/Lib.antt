-- A block's message in pieces: what a reader must believe.
pub mod InPieces
