pub mod Element
pub mod Arrays
