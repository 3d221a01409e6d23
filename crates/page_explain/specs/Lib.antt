-- Why a block of a page was answered as it was.
pub mod Explain
