-- The parts of a right claim.
pub mod Claims
