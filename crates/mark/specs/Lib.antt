-- The mark of a page, and the bit stream around it.
pub mod Mark
