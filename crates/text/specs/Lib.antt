-- Document 01
pub mod Text
-- The code's own forms
pub mod Put
pub mod Slices
