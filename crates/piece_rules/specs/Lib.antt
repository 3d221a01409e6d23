-- Which blocks can be started in pieces, and which states gone on with: what a reader must believe.
pub mod Rules
