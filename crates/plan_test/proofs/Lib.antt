-- Laws of plans whose numbers hold together.
pub mod Shapes
pub mod Together
