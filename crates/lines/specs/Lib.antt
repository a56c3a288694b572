-- The code's own forms
pub mod Sums
pub mod Buffers
