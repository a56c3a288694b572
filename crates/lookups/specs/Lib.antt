-- The code's own forms
pub mod Windows
pub mod Lookups
