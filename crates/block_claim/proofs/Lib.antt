-- The laws behind the claim check.
pub mod Claims
