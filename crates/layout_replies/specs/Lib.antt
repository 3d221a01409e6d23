-- The replies of the calls about a layout, in order: what a reader must believe.
pub mod ReplyRules
