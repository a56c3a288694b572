-- The code's own forms
pub mod Areas
pub mod Layouts
pub mod Portions
