-- The replies of exporting and importing fragments, in order: what a reader must believe.
pub mod ReplyRules
