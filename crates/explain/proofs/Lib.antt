-- The laws behind explaining layouts and bits.
pub mod Places
pub mod Truth
pub mod Written
