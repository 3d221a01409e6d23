-- Laws of records.
pub mod Records
