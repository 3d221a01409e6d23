-- What a comparison shows of a block.
pub mod Lines
