-- What the steps of counting promise.
pub mod Looking
