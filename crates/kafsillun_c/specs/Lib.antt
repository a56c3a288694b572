-- Document 02
pub mod Interface
