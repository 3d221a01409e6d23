-- Laws of numbers and bytes as people type them.
pub mod Bytes
pub mod Printed
pub mod Numbers
