-- What looking for damaged blocks and deciding them promise.
pub mod Scanning
pub mod Deciding
