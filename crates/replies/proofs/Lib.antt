-- The laws of lists of rules: when a reply is given; and of the editions.
pub mod Tests
pub mod Given
pub mod Editions
