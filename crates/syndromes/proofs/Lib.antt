pub mod PowerSums
pub mod Spreading
