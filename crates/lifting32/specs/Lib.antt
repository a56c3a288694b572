-- The code's own forms
pub mod Pairs
pub mod Liftable
