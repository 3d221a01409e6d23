-- Laws of what is carried from piece to piece.
pub mod Carrying
