-- What every call of the C interface returns.
pub mod Answer
