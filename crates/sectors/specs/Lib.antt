-- What a layout of sectors means.
pub mod Sectors
