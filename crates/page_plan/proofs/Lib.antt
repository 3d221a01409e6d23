-- The laws behind plans and their blocks.
pub mod Plans
pub mod Asking
pub mod Tables
