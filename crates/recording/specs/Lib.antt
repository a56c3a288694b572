-- Documents 01 and 02
pub mod Output
-- The code's own forms
pub mod Parts
