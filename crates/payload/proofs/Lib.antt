-- Laws of a payload that is lent as metadata and data apart.
pub mod Payload
