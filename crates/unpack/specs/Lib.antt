-- Document 01
pub mod Header
pub mod Subband
pub mod Job
-- The code's own forms
pub mod Bounds
