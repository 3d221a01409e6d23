-- What the steps that find a bit promise.
pub mod Places
