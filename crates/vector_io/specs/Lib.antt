-- The code's own forms
pub mod Lines
