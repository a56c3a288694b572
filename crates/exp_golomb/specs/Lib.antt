-- Document 01
pub mod Bits
pub mod Codes
-- The code's own forms
pub mod Begins
