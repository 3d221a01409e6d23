-- Words with their bytes in the other order.
pub mod Turned
