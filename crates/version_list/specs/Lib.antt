-- The plain list of numbered layouts beside 16 numbers, what each call makes of it, and the places of an array that hold it.
pub mod Plain
pub mod Places
