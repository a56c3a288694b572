-- Document 01
pub mod Examples
