-- Laws of acceptance.
pub mod Numbers
mod Findings
pub mod Records
pub mod Reasons
pub mod Accepting
