-- The replies of document 01's table, which of several is given, and the editions.
pub mod Replies
pub mod Given
pub mod Edition
