-- Why a layout is refused, and what a bit of a page is.
pub mod Reasons
pub mod Parts
