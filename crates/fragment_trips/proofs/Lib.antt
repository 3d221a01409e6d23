-- Laws of one call after the other.
pub mod Trips
