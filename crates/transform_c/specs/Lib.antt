-- Document 01
pub mod Interface
