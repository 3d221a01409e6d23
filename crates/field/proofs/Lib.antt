-- The laws of the fields.
pub mod Chosen
pub mod Test
pub mod Xor
pub mod Additive
pub mod Multiply
pub mod Exponents
pub mod Pigeon
pub mod Fast
pub mod Order
pub mod Primitive
pub mod Partial
pub mod Instance
pub mod Cases
