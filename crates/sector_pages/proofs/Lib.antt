-- Laws of pages of sectors.
pub mod Planned
pub mod Demands
mod NoMetadata
