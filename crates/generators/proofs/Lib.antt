-- The laws of the stored generators.
mod Chain
mod Stored
