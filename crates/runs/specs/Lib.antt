-- The code's own forms
pub mod Padded
pub mod Runs
