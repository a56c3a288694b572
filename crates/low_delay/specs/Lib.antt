-- Document 02
pub mod Slices
pub mod Job
-- The code's own forms
pub mod Bounds
