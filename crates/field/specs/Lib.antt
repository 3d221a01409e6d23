-- What the field calls are to answer.
pub mod Field
pub mod Tables
