pub mod Decides
pub mod Numbers
pub mod Runs
pub mod Pages
pub mod Placed
pub mod Steps
