-- The code's own forms
pub mod Layout
pub mod Lines
pub mod LineBounds
