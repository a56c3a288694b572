-- Document 02
pub mod Planes
pub mod Areas
pub mod Parts
-- The code's own forms
pub mod Bounds
pub mod Stores
pub mod Reads
