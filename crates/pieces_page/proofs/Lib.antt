-- A block's message in pieces, and the page that holds it.
pub mod AfterMessage
