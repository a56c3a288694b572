-- Document 01
pub mod Bytes
pub mod Table
-- The code's own forms
pub mod Counts
